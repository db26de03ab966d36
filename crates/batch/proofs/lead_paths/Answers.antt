-- The rules of the rounds are those that apply. Assumes nothing.
use Rattle.batch.proofs.Answering.{round_applying}
use Rattle.batch.proofs.lead_paths.Goals as goal

pub returns-clause-round : goal.returns-clause-round
returns-clause-round c =
    round_applying c.args.file.now c.args.name.now c.choose_audience-chosen.ensures.audience c.whom-who.ensures c.rounds.ensures.round
