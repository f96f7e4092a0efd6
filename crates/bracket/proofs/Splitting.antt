-- Splitting a payload: a body lies inside the payload, the next place is further on and inside it too, and steps taken from a place to the end
-- give exactly the bodies from there. Assumes nothing.
use Prim.Native.Nat.{ℕ, zero, suc, ◌+◌, ◌-◌, ◌<◌, ◌≤◌}
use lib.Dec.{ltb}
use lib.ListN.{length}
use mathlib.Core.Bool.{Bool, true, false, cond}
use mathlib.Core.List.Memᴰ
use mathlib.Core.List.{List, [], ◌∷◌, ◌++◌, Memᴰ}
use mathlib.Core.Logic.{⊎_elim}
use mathlib.Core.Path.{◌≡◌, refl, sym, ap, subst, ◌∙◌}
use native.Mathlib.Omega.{arith}
use borrow.Author.Tests.{ltb-true, ltb-false}
use Rattle.bracket.specs.Bracket.{length_at, close_at, next_at, good, Piece, body_at, walk, bodies_from, bodies, step_at, next_record, met, steps}
use Rattle.bracket.specs.declared.Body.{Body}
use Rattle.std.specs.Prelude.{Option, None, Some}
use Rattle.choice.proofs.Choice.{by_choice}
use Rattle.bracket.proofs.Walks.{past, enough, outside}

-- a good bracket record ends inside the payload
fits_by : (p : List ℕ) (at : ℕ) (t : Bool) → ltb (close_at p at) (length p) ≡ t → good p at ≡ true → close_at p at < length p
fits_by p at true e g = ltb-true (close_at p at) (length p) e
fits_by p at false e g =
    let bad : good p at ≡ false = past p at (ltb-false (close_at p at) (length p) e) in
    let z : ◌≡◌ {A = ℕ} 0 1 = cc in
    omega arith

pub good_fits : (p : List ℕ) (at : ℕ) → good p at ≡ true → close_at p at < length p
good_fits p at g = fits_by p at (ltb (close_at p at) (length p)) refl g

-- what a step from a place may answer
pub Inside : List ℕ → ℕ → Option Body → Type 0
Inside p from (Some b) = (from < b.at) × (b.at + b.len < b.next) × (b.next ≤ length p)
Inside p from None = Unit

from_before : (p : List ℕ) (a b : ℕ) → a ≤ b → (s : Option Body) → Inside p b s → Inside p a s
unfolding Inside
from_before p a b h (Some x) i = (omega arith, i.1, i.2)
from_before p a b h None i = tt

module _ (p : List ℕ) where
  inside_walk : (n at : ℕ) → Inside p at (walk (step_at p) None p n at)
  unfolding walk Inside
  inside_walk zero at = tt
  inside_walk (suc n) at =
      let later = walk (step_at p) None p n (next_at p at) in
      let here : Body = record { at = at + 3; len = length_at p at - 2; next = next_at p at } in
      by_choice (Inside p at) (good p at) {a = step_at p at later} {b = None}
      (λ (g : good p at ≡ true).
      let f : close_at p at < length p = good_fits p at g in
      by_choice (Inside p at) (ltb 1 (length_at p at)) {a = Some here} {b = later}
      (λ (m : ltb 1 (length_at p at) ≡ true).
      let l : 1 < length_at p at = ltb-true 1 (length_at p at) m in
      (omega arith, omega arith, omega arith))
      (λ (m : ltb 1 (length_at p at) ≡ false). from_before p at (next_at p at) (omega arith) later (inside_walk n (next_at p at))))
      (λ (g : good p at ≡ false). tt)

  pub inside : (at : ℕ) → Inside p at (next_record p at)
  unfolding next_record
  inside at = inside_walk (length p) at

  -- the body begins further on and ends before the next place, so it lies inside the payload; the next place is further on
  module _ (from : ℕ) (b : Body) (e : next_record p from ≡ Some b) where
    met_inside : Inside p from (Some b)
    met_inside = subst (Inside p from) e (inside from)

    pub body_further : from < b.at
    unfolding Inside
    body_further = met_inside.0

    pub body_inside : b.at + b.len ≤ length p
    unfolding Inside
    body_inside = omega (arith, met_inside)

    pub next_further : from < b.next
    unfolding Inside
    next_further = omega (arith, met_inside)

    pub next_inside : b.next ≤ length p
    unfolding Inside
    next_inside = omega (arith, met_inside)

-- one bracket record's part in the bodies, and in the next step
one_record : (g m : Bool) (here : Piece) (rest : List Piece) (step : Option Body) (next : ℕ) (later : ℕ → List Piece)
    → rest ≡ later next
    → rest ≡ met step later
    → cond g (cond m (here ∷ []) [] ++ rest) [] ≡ met (cond g (cond m (Some (record { at = here.at; len = here.len; next = next })) step) None) later
one_record true true here rest step next later a b = ap (λ (l : List Piece). here ∷ l) a
one_record true false here rest step next later a b = b
one_record false m here rest step next later a b = refl

module _ (p : List ℕ) where
  abbrev with_body : ℕ → List Piece → List Piece
  with_body at rest = body_at p at ++ rest

  head_walk : (n at : ℕ) → length p ≤ n + at → walk with_body [] p n at ≡ met (walk (step_at p) None p n at) (bodies_from p)
  unfolding walk bodies_from
  head_walk zero at h = refl
  head_walk (suc n) at h =
      one_record (good p at) (ltb 1 (length_at p at)) (record { at = at + 3; len = length_at p at - 2 })
      (walk with_body [] p n (next_at p at))
      (walk (step_at p) None p n (next_at p at))
      (next_at p at)
      (bodies_from p)
      (enough with_body [] p n (length p) (next_at p at) (omega arith) (omega arith))
      (head_walk n (next_at p at) (omega arith))

  -- the bodies from a place on are the next step's and those from the place that it names
  pub head : (at : ℕ) → bodies_from p at ≡ met (next_record p at) (bodies_from p)
  unfolding bodies_from next_record
  head at = head_walk (length p) at (omega arith)

  steps_met : (n at : ℕ) → ((next : ℕ) → at < next → steps p n next ≡ bodies_from p next) → (s : Option Body) → Inside p at s
      → met s (λ (next : ℕ). steps p n next) ≡ met s (bodies_from p)
  unfolding Inside
  steps_met n at h (Some b) i = ap (λ (l : List Piece). record { at = b.at; len = b.len } ∷ l) (h b.next (omega arith))
  steps_met n at h None i = refl

  pub steps_from : (n at : ℕ) → length p ≤ n + at → steps p n at ≡ bodies_from p at
  unfolding steps bodies_from
  steps_from zero at h = outside with_body [] p (length p) at (omega arith)
  steps_from (suc n) at h =
      steps_met n at (λ (next : ℕ) (l : at < next). steps_from n next (omega arith)) (next_record p at) (inside p at) ∙ sym (head at)

  -- steps from 0 to the end give exactly the bodies
  pub all_steps : steps p (length p) 0 ≡ bodies p
  all_steps = steps_from (length p) 0 (omega arith)

  -- every body of a payload lies inside it
  piece_inside : (b : Piece) (n at : ℕ) → Memᴰ b (walk with_body [] p n at) → b.at + b.len ≤ length p
  unfolding walk
  piece_inside b zero at = λ (m : Memᴰ b []). absurd (Memᴰ.not-nil m)
  piece_inside b (suc n) at =
      let later = walk with_body [] p n (next_at p at) in
      by_choice In (good p at) {a = body_at p at ++ later} {b = []}
      (λ (g : good p at ≡ true) (m : Memᴰ b (body_at p at ++ later)).
      ⊎_elim
      (by_choice In (ltb 1 (length_at p at)) {a = here ∷ []} {b = []}
      (λ (t : ltb 1 (length_at p at) ≡ true) (k : Memᴰ b (here ∷ [])).
      let e : b ≡ here = Memᴰ.eq_of_singleton k in
      omega (arith, good_fits p at g, ltb-true 1 (length_at p at) t, ap (λ (x : Piece). x.at) e, ap (λ (x : Piece). x.len) e))
      (λ (t : ltb 1 (length_at p at) ≡ false) (k : Memᴰ b []). absurd (Memᴰ.not-nil k)))
      (piece_inside b n (next_at p at))
      (Memᴰ.append_cases (body_at p at) m))
      (λ (g : good p at ≡ false) (m : Memᴰ b []). absurd (Memᴰ.not-nil m))
    where
      here : Piece
      here = record { at = at + 3; len = length_at p at - 2 }

      In : List Piece → Type 0
      In l = Memᴰ b l → b.at + b.len ≤ length p

  pub bodies_inside : (b : Piece) → Memᴰ b (bodies p) → b.at + b.len ≤ length p
  unfolding bodies_from
  bodies_inside b m = piece_inside b (length p) 0 m
