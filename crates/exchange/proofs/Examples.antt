-- The worked exchanges, computed; and that each test is needed. Assumes nothing.
use mathlib.Core.Path.{◌≡◌, refl}
use mathlib.Core.Bool.{true}
use mathlib.Core.List.{[], map, flatten}
use lib.ListN.{length}
use Rattle.protocol.specs.Examples.{allow, disallow}
use Rattle.protocol.proofs.Computing.{computing}
use Rattle.exchange.specs.Exchange.{roles_in, closes, is_mark, Parts, file_of, exchanged, groups_tests, parts_tests}
use Rattle.exchange.specs.Examples.{failing, asked, outcome, may_exchange, may_not, each_needed, draft_parts, draft_answer}

-- all tests pass, and both files are answered disallow
pub may_exchange_lem : map asked may_exchange ≡ map outcome may_exchange
unfolding computing roles_in closes is_mark file_of failing flatten may_exchange
may_exchange_lem = refl

-- a test fails, and the two files are answered otherwise
pub may_not_lem : map asked may_not ≡ map outcome may_not
unfolding computing roles_in closes is_mark file_of failing flatten may_not
may_not_lem = refl

-- Each test of two groups is needed, and each of two parts: where it fails alone, allow and disallow may change.
pub groups_needed : each_needed (λ o. o.groups_fail) 12 ≡ true
unfolding computing each_needed may_not
groups_needed = refl

pub parts_needed : each_needed (λ o. o.parts_fail) 11 ≡ true
unfolding computing each_needed may_not
parts_needed = refl

-- there are so many
pub groups_tests_lem : (p : Parts) → length (groups_tests p) ≡ 12
groups_tests_lem p = refl

pub parts_tests_lem : (p : Parts) → length (parts_tests p) ≡ 11
parts_tests_lem p = refl

-- The draft's dialect is left out with reason: all tests pass, and the answer changes.
pub draft_differs : (failing 0 (groups_tests draft_parts) ≡ []) × (draft_answer draft_parts ≡ allow 2 0 1) × (draft_answer (exchanged draft_parts) ≡ disallow 2 0 1)
unfolding computing roles_in closes is_mark file_of failing draft_parts
draft_differs = (refl, refl, refl)
