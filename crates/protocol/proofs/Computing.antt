-- Names for what has to unfold so that the definitions compute: a proof by computation says `unfolding computing`. Assumes nothing.
use Rattle.lists.specs.Lists.{all, any, kept, up_to, from, through, total, numbers_from, same}
use Rattle.protocol.specs.Octets.{upper, lower, digit, token, unreserved, hex, blank, line_end, lower_case, upper_case, hex_value, hex_digit}
use Rattle.protocol.specs.Text.{octets, begins, ends, same_ignoring_case, lead, unless_at_end, trim_end, trim, octets_at}
use Rattle.protocol.specs.Lines.{ending_length, line_length, lines_from, has_leading_mark, lines_of, ended}
use Rattle.protocol.specs.Readable.{name_front, agent_name, readable_agent, names, character_forms, due_after, well_formed, pattern_start, readable_pattern}
use Rattle.protocol.specs.Kinds.{agent_at, pattern_at, field_kind, record_kind, rest_kind, uncommented, kind_of}
use Rattle.protocol.specs.Entries.{role_of, group_at, ruled_after, place_in_file, entry_of, entries_from, entries}
use Rattle.protocol.specs.Rules.{named_by, some_group_names, group_names, rule_in, rules_in, audience, group_for, applying, unreadable, unread}
use Rattle.protocol.specs.Normal.{encoded, meant, escape, is_escape, escape_at, special, plain, replacement, normal, normal_path}
use Rattle.protocol.specs.Pattern.{raw_text, shape_of, shape_in, weight, first_run, later_runs}
use Rattle.protocol.specs.Walk.{tried, try_at, seek, final, first, next, later, walk_runs, walk}
use Rattle.protocol.specs.Starts.{later_starts, starts}
use Rattle.protocol.specs.Refusals.{outside_path, dialect_of, decrease, last_end, refusal, decide_refusal, match_refusal, normalise_refusal, line_refusal, unless_refused}
use Rattle.protocol.specs.Decision.{readable_rules, weight_in, walk_of, matching, outdoes, chosen, heaviest, earliest, deciding, walked, compared_by, decided_by, is_robots_file, decided_among, answered}
use Rattle.protocol.specs.Answers.{decide, match_of, normal_written, normalise_of, normalise_buffer, line_answer}
use Rattle.protocol.specs.Batch.{batch_refusal, paths_from, decisions, column, refusals_after, sides_after, lines_after}
use Rattle.protocol.specs.Program.{decimal_before, decimal, refused_text, side_text, answer_text, first_part, behind, output}

unfoldable pub texts : Unit {0}
unfolding all any kept up_to from through total numbers_from same upper lower digit token unreserved hex blank line_end lower_case upper_case hex_value hex_digit octets begins ends same_ignoring_case lead unless_at_end trim_end trim octets_at
texts = tt

unfoldable pub lines : Unit {0}
unfolding ending_length line_length lines_from has_leading_mark lines_of ended name_front agent_name readable_agent names character_forms due_after well_formed pattern_start readable_pattern agent_at pattern_at field_kind record_kind rest_kind uncommented kind_of
lines = tt

unfoldable pub groups : Unit {0}
unfolding role_of group_at ruled_after place_in_file entry_of entries_from entries named_by some_group_names group_names rule_in rules_in audience group_for applying unreadable unread
groups = tt

unfoldable pub patterns : Unit {0}
unfolding encoded meant escape is_escape escape_at special plain replacement normal normal_path raw_text shape_of shape_in weight first_run later_runs tried try_at seek final first next later walk_runs walk later_starts starts
patterns = tt

unfoldable pub answers : Unit {0}
unfolding outside_path dialect_of decrease last_end refusal decide_refusal match_refusal normalise_refusal line_refusal unless_refused readable_rules weight_in walk_of matching outdoes chosen heaviest earliest deciding walked compared_by decided_by is_robots_file decided_among answered decide match_of normal_written normalise_of normalise_buffer line_answer batch_refusal paths_from decisions column refusals_after sides_after lines_after decimal_before decimal refused_text side_text answer_text first_part behind output
answers = tt

-- all of them
unfoldable pub computing : Unit {0}
unfolding texts lines groups patterns answers
computing = tt
