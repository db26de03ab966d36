-- The walk's starts are right, and a pattern matches exactly where some starts are right. Assumes nothing.
use Prim.Native.Nat.{ℕ, ◌+◌, ◌≤◌}
use mathlib.Core.Path.{◌≡◌, refl, sym, ap, ◌∙◌}
use mathlib.Core.Bool.{Bool, true, false≢true}
use mathlib.Core.List.{List, [], ◌∷◌, ◌++◌, tail, append_assoc}
use native.Mathlib.Omega.{arith}
use lib.ListN.{length, drop, length-append, drop_of_length-le}
use lib.Seq.{drop-append_seam, drop-append-le}
use Rattle.lists.specs.Lists.{up_to}
use Rattle.lists.specs.Occurs.{Occurs}
use Rattle.lists.proofs.Bools.{split}
use Rattle.lists.proofs.Places.{occurs_fits, occurs_begins}
use Rattle.protocol.specs.declared.Walked.{Walked}
use Rattle.protocol.specs.Pattern.{Shape, is_star, first_run, later_runs}
use Rattle.protocol.specs.Matching.{next_filling, filled, Matches}
use Rattle.protocol.specs.Walk.{first, next, is_last, later, walk_runs, walk}
use Rattle.protocol.specs.Starts.{start_of, later_starts, starts, Stand, StandAt}
use Rattle.protocol.proofs.Steps.{later_kept}
use Rattle.protocol.proofs.Leftmost.{first_found, next_found}

module _ (end_mark : Bool) (path : List ℕ) where
  -- after a failed run the walk has failed
  later_stood : (rs : List (List ℕ)) (w : Walked) → (later end_mark rs path w).stood ≡ true → w.stood ≡ true
  later_stood rs w h = split w.stood (λ e. e) (λ e. absurd (false≢true (sym e ∙ rw (later_kept end_mark rs path w e) at h)))

  -- the later runs stand behind w, each where it was put
  later_stand : (rs : List (List ℕ)) (w : Walked) → w.past ≤ length path → (is_last end_mark rs ≡ true → w.past ≡ length path)
      → (later end_mark rs path w).stood ≡ true → Stand end_mark w.past rs (later_starts end_mark rs path w) path
  unfolding later later_starts Stand
  later_stand [] w l z h = z
  later_stand (r ∷ rs) w l z h =
      let v = next (is_last end_mark rs) r path w in
      let (j, m, p) = next_found (is_last end_mark rs) r path w (later_stood (r ∷ rs) w h) l (later_stood rs v h) in
      let at : start_of r v ≡ j = omega arith in
      let behind = later_stand rs v (omega (arith, occurs_fits path r j p.stands)) p.whole h in
      rw at (omega arith, p.stands, rw (← p.ends) behind)

-- where the walk finds a match, its starts are right
pub starts_stand : (s : Shape) (path : List ℕ) → (walk s path).stood ≡ true → StandAt s path (starts s path)
unfolding walk walk_runs starts Stand
starts_stand s path h =
    let r = first_run s.text in
    let rs = later_runs s.text in
    let w = first (is_last s.end_mark rs) r path in
    let p = first_found (is_last s.end_mark rs) r path (later_stood s.end_mark path rs w h) in
    let at : start_of r w ≡ 0 = omega arith in
    let behind = later_stand s.end_mark path rs w (omega (arith, occurs_fits path r 0 p.stands)) p.whole h in
    rw at (refl, (omega arith, p.stands, rw (← p.ends) behind))

-- the later runs, each behind what fills the star in front of it
unfoldable later_filled : List (List ℕ) → List (List ℕ) → List ℕ
later_filled [] fillings = []
later_filled (r ∷ rs) fillings = next_filling fillings ++ (r ++ later_filled rs (tail fillings))

-- a filled pattern is its first run, and its later runs so filled
filled_runs : (text : List ℕ) (fillings : List (List ℕ)) → filled text fillings ≡ first_run text ++ later_filled (later_runs text) fillings
unfolding filled first_run later_runs later_filled up_to
filled_runs [] fillings = refl
filled_runs (c ∷ text) fillings =
    split (is_star c) (λ e. rw e (ap (λ (x : List ℕ). next_filling fillings ++ x) (filled_runs text (tail fillings))))
    (λ e. rw e (ap (λ (x : List ℕ). c ∷ x) (filled_runs text fillings)))

-- some filling of the later runs gives a beginning of t, or all of it where there is an end mark
record Given (end_mark : Bool) (rs : List (List ℕ)) (t : List ℕ) : Type 0 where
  fillings : List (List ℕ)
  rest : List ℕ
  gives : later_filled rs fillings ++ rest ≡ t
  whole : end_mark ≡ true → rest ≡ []

module _ (end_mark : Bool) where
  -- one run more, behind the filling f
  given_more : (r : List ℕ) (rs : List (List ℕ)) (f t u : List ℕ) → t ≡ f ++ (r ++ u) → Given end_mark rs u → Given end_mark (r ∷ rs) t
  unfolding later_filled
  given_more r rs f t u p g =
      record { fillings = f ∷ g.fillings; rest = g.rest; gives = simp append_assoc (rw g.gives (sym p)); whole = g.whole }

  -- where the later runs stand behind a, some filling of them gives what is left of the path
  stand_given : (rs : List (List ℕ)) (ks path a t : List ℕ) → path ≡ a ++ t → Stand end_mark (length a) rs ks path → Given end_mark rs t
  unfolding Stand later_filled
  stand_given [] [] path a t p h =
      let none : end_mark ≡ true → t ≡ [] = λ e. drop_of_length-le t {i = 0} (omega (arith, h e, ap length p, length-append a t)) in
      record { fillings = []; rest = t; gives = refl; whole = none }
  stand_given [] (j ∷ js) path a t p h = absurd h
  stand_given (r ∷ rs) [] path a t p h = absurd h
  stand_given (r ∷ rs) (j ∷ js) path a t p (l, o, h) =
      let f = drop (length a) o.front in
      let left : t ≡ f ++ (r ++ o.back)
      = sym (drop-append_seam a t) ∙ ap (drop (length a)) (sym p ∙ o.whole) ∙ drop-append-le (length a) o.front (r ++ o.back) (omega arith) in
      let behind : path ≡ (o.front ++ r) ++ o.back = o.whole ∙ sym (append_assoc o.front r o.back) in
      let size : length (o.front ++ r) ≡ j + length r = length-append o.front r ∙ rw o.place in
      given_more r rs f t o.back left (stand_given rs js path (o.front ++ r) o.back behind (rw size h))

  -- and where some filling gives it, the later runs stand behind a
  given_stand : (rs : List (List ℕ)) (path a t : List ℕ) → path ≡ a ++ t → Given end_mark rs t → (ks : List ℕ) × Stand end_mark (length a) rs ks path
  unfolding Stand later_filled
  given_stand [] path a t p g =
      ([], λ e. omega (arith, ap length p, length-append a t, ap length g.gives, ap length (g.whole e)))
  given_stand (r ∷ rs) path a t p g =
      let b = a ++ next_filling g.fillings in
      let u = later_filled rs (tail g.fillings) ++ g.rest in
      let whole : path ≡ b ++ (r ++ u) = p ∙ rw (← g.gives) (simp append_assoc) in
      let less : Given end_mark rs u = record { fillings = tail g.fillings; rest = g.rest; gives = refl; whole = g.whole } in
      let (ks, h) = given_stand rs path (b ++ r) u (whole ∙ sym (append_assoc b r u)) less in
      (length b ∷ ks, (simp length-append (omega arith), record { front = b; back = u; whole = whole; place = refl }, rw (length-append b r) at h))

-- "A yes shows the rule matches"
pub stand_matches : (s : Shape) (path ks : List ℕ) → StandAt s path ks → Matches s path
unfolding Stand
stand_matches s path [] h = absurd h
stand_matches s path (j ∷ js) (z, (l, o, h)) =
    let r = first_run s.text in
    let front : Occurs path 0 r = rw z at o in
    let begins : path ≡ r ++ front.back = occurs_begins path r front in
    let size : j + length r ≡ length r = omega arith in
    let g = stand_given s.end_mark (later_runs s.text) js path r front.back begins (rw size at h) in
    record {
      fillings = g.fillings;
      rest = g.rest;
      gives = rw (filled_runs s.text g.fillings, append_assoc, g.gives) (sym begins);
      whole = g.whole;
    }

-- a pattern that matches has starts that are right
pub matches_stand : (s : Shape) (path : List ℕ) → Matches s path → (ks : List ℕ) × StandAt s path ks
unfolding Stand
matches_stand s path m =
    let r = first_run s.text in
    let u = later_filled (later_runs s.text) m.fillings ++ m.rest in
    let p : path ≡ r ++ u = sym m.gives ∙ rw (filled_runs s.text m.fillings, append_assoc) in
    let g : Given s.end_mark (later_runs s.text) u = record { fillings = m.fillings; rest = m.rest; gives = refl; whole = m.whole } in
    let (ks, h) = given_stand s.end_mark (later_runs s.text) path r u p g in
    let size : 0 + length r ≡ length r = omega arith in
    (0 ∷ ks, (refl, (omega arith, record { front = []; back = u; whole = p; place = refl }, rw size h)))
