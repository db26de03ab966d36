-- Each entry of the table of octets tells exactly its octet's sorts: one test that is computed over the table, and one law that carries it to each
-- octet. Assumes nothing.
use Prim.Native.Nat.{ℕ, ◌+◌, ◌<◌}
use mathlib.Core.Path.{◌≡◌, refl, sym, ap, ◌∙◌}
use mathlib.Core.Bool.{true}
use mathlib.Core.List.{map-map}
use native.Mathlib.Omega.{arith}
use lib.Dec.{eqb}
use lib.ListN.{length, get_or}
use borrow.Author.Tests.{eqb-true, eqb-false, eq-eqb, ne_eqb}
use Rattle.lists.specs.Lists.{up_to, numbers_from}
use Rattle.lists.proofs.Bools.{split}
use Rattle.lists.proofs.Numbers.{agree_on, value_at_lem}
use Rattle.protocol.specs.declared.Sort.{Sort}
use Rattle.protocol.specs.Octets.{upper, lower, digit, token, unreserved, hex, hex_value, blank, line_end, lower_case, upper_case}
use Rattle.protocol.specs.Text.{octets, begins}
use Rattle.protocol.specs.Readable.{character_forms, due_after, pattern_start}
use Rattle.protocol.specs.Normal.{special}
use Rattle.protocol.specs.Refusals.{outside_path}
use Rattle.protocol.specs.Classes.{stop, delimiter, order, class_of, class_table, class_forms, due_up_to, Sorts, sorts_of, told, TellsSorts, of_sort, is_of, class_in}

-- the rule, at all 256 octets
pub table_tells : TellsSorts class_table
unfolding numbers_from up_to octets begins pattern_start order class_of class_table class_forms due_up_to upper lower digit token unreserved hex hex_value blank line_end lower_case upper_case stop delimiter character_forms due_after special outside_path
table_tells = refl

in_class : (s : Sort) (c : ℕ) → class_in s c ≡ of_sort s (told c)
in_class Sort.Token c = refl
in_class Sort.Unreserved c = refl
in_class Sort.Hex c = refl
in_class Sort.Blank c = refl
in_class Sort.LineEnd c = refl
in_class Sort.Stop c = refl
in_class Sort.Delimiter c = refl

module _ (x : ℕ) (h : x < 256) where
  -- at each of them
  pub entry_tells : told (class_of x) ≡ sorts_of x
  unfolding class_table
  entry_tells =
      agree_on (λ y. told (class_of y)) sorts_of 0 256 (sym (map-map told class_of (numbers_from 0 256)) ∙ table_tells) x (omega arith) (omega arith)

  pub entry_at : get_or class_table x 0 ≡ class_of x
  unfolding class_table
  entry_at = let e : 0 + x ≡ x = omega arith in value_at_lem class_of 0 0 256 x h ∙ ap class_of e

  -- whether the octet is of a sort
  pub sort_told : (s : Sort) → class_in s (class_of x) ≡ is_of s x
  sort_told s = in_class s (class_of x) ∙ ap (of_sort s) entry_tells

  -- what a hex digit stands for
  pub value_told_lem : hex x ≡ true → class_of x ≡ hex_value x
  value_told_lem e = rw (sort_told Sort.Hex ∙ e, e) at (ap (λ (t : Sorts). t.hex_value) entry_tells)

  -- what is due after it
  pub due_told : due_up_to (class_of x) class_forms ≡ due_after x character_forms
  due_told = ap (λ (t : Sorts). t.due) entry_tells

-- two octets have one class number exactly if they are one, ASCII case ignored
pub same_told : (x y : ℕ) → x < 256 → y < 256 → eqb (class_of x) (class_of y) ≡ eqb (lower_case x) (lower_case y)
unfolding class_of
same_told x y h k =
    split (eqb (class_of x) (class_of y))
    (λ e.
    let one : lower_case x ≡ lower_case y = sym (lower x h) ∙ ap (λ c. get_or order c 0) (eqb-true (class_of x) (class_of y) e) ∙ lower y k in
    e ∙ sym (eq-eqb (lower_case x) (lower_case y) one))
    (λ e.
    let two : lower_case x ≡ lower_case y → ⊥ = λ q. eqb-false (class_of x) (class_of y) e (ap (λ z. length (up_to (eqb z) order)) q) in
    e ∙ sym (ne_eqb (lower_case x) (lower_case y) two))
  where
    lower : (z : ℕ) → z < 256 → get_or order (class_of z) 0 ≡ lower_case z
    lower z i = ap (λ (t : Sorts). t.lower_case) (entry_tells z i)
