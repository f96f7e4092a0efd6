-- What a step of the reader does to its place and count, and that a whole read ends, from any place, and has one list of answers. Assumes nothing.
use Prim.Native.Nat.{ℕ, zero, suc, ◌+◌, ◌-◌, ◌≤◌}
use lib.ListN.{length}
use mathlib.Core.Bool.{Bool, true, false}
use mathlib.Core.List.{List, ◌∷◌}
use mathlib.Core.Path.{◌≡◌, refl, sym, ap, ◌∙◌}
use native.Mathlib.Omega.{arith}
use Rattle.reader.specs.declared.ZlfReader.{ZlfReader}
use Rattle.reader.specs.Next.{NextTold, next_of}
use Rattle.reader.specs.Whole.{onward, Read, read_some, read_all}
use Rattle.reader.specs.Whole.Read.{stops, goes}
use Rattle.reader.specs.Exactly.{Steps}
use Rattle.choice.proofs.Choice.{by_choice}
use Rattle.reader.proofs.Exact.{next_has}

true_false {ℓ} : {X : Type ℓ} → true ≡ false → X
true_false e = let z : ◌≡◌ {A = ℕ} 0 1 = cc in absurd (omega arith)

module _ (kinds s : List ℕ) (r : ZlfReader) where
  moves : {t : NextTold} → Steps kinds s r t → t.is_record ≡ true → (r.place + 14 ≤ t.place) × (t.place ≤ length s)
  moves (Steps.reads a d e h) f = (omega arith, omega arith)
  moves (Steps.overlong h) f = true_false (sym f)
  moves (Steps.ended a h) f = true_false (sym f)
  moves (Steps.in_head a b h) f = true_false (sym f)
  moves (Steps.negative a d h) f = true_false (sym f)
  moves (Steps.in_payload a d e h) f = true_false (sym f)

  rests : {t : NextTold} → Steps kinds s r t → t.is_record ≡ false → onward t ≡ r
  rests (Steps.reads a d e h) f = true_false f
  rests (Steps.overlong h) f = refl
  rests (Steps.ended a h) f = refl
  rests (Steps.in_head a b h) f = refl
  rests (Steps.negative a d h) f = refl
  rests (Steps.in_payload a d e h) f = refl

  -- a record that is read lies inside the trace, and the next place is past it
  pub inside : (next_of kinds s r).is_record ≡ true → (r.place + 14 ≤ (next_of kinds s r).place) × ((next_of kinds s r).place ≤ length s)
  inside = moves (next_has kinds s r)

  -- after a refusal or the end the reader is as given
  pub as_given : (next_of kinds s r).is_record ≡ false → onward (next_of kinds s r) ≡ r
  as_given = rests (next_has kinds s r)

module _ (kinds s : List ℕ) where
  -- with no byte left there is no record
  no_more : (r : ZlfReader) → length s ≤ r.place → (b : Bool) → (next_of kinds s r).is_record ≡ b → b ≡ false
  no_more r h true e = absurd (omega (arith, (inside kinds s r e).0, (inside kinds s r e).1))
  no_more r h false e = refl

  -- a read with enough steps is a whole one
  whole_by : (n : ℕ) (r : ZlfReader) → length s - r.place ≤ n → Read kinds s r (read_some n kinds s r)
  unfolding read_some
  whole_by zero r h = stops (no_more r (omega arith) (next_of kinds s r).is_record refl)
  whole_by (suc n) r h =
      by_choice (Read kinds s r) (next_of kinds s r).is_record
      (λ e. goes e (whole_by n (onward (next_of kinds s r)) (omega (arith, (inside kinds s r e).0, (inside kinds s r e).1))))
      (λ e. stops e)

  -- a whole read ends, from any place
  pub ends : (r : ZlfReader) → Read kinds s r (read_all kinds s r)
  ends r = whole_by (length s - r.place) r (omega arith)

  -- and it has one list of answers
  pub one_read : {r : ZlfReader} {l m : List NextTold} → Read kinds s r l → Read kinds s r m → l ≡ m
  one_read (stops e) (stops f) = refl
  one_read (stops e) (goes f q) = true_false (sym f ∙ e)
  one_read (goes e p) (stops f) = true_false (sym e ∙ f)
  one_read {r} (goes e p) (goes f q) = ap (λ (l : List NextTold). next_of kinds s r ∷ l) (one_read p q)

  -- more steps change nothing
  pub enough : (n : ℕ) (r : ZlfReader) → length s - r.place ≤ n → read_some n kinds s r ≡ read_all kinds s r
  enough n r h = one_read (whole_by n r h) (ends r)
