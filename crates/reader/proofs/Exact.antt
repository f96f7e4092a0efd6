-- An answer is given exactly when its case of Exactly holds: the definitions' answer has a case, and every answer that has one is the definitions'. Assumes nothing.
use Prim.Native.Nat.{ℕ, ◌+◌, ◌^◌}
use lib.Dec.{ltb, eqb}
use lib.ListN.{length}
use mathlib.Core.List.{List}
use mathlib.Core.Path.{◌≡◌}
use borrow.Author.Tests.{ltb-true, ltb-false, eqb-true, eqb-false, eq-eqb, ne_eqb}
use Rattle.layout.specs.Layout.{header_size, trace_limit, properties_part, payload_part}
use Rattle.layout.specs.Fields.{length_at, end_place}
use Rattle.reader.specs.declared.ZlfReader.{ZlfReader}
use Rattle.reader.specs.Opening.{OpeningTold, sum_right, version_of, opened}
use Rattle.reader.specs.Next.{NextTold, next_of}
use Rattle.reader.specs.Exactly.{Opens, Steps}
use Rattle.choice.proofs.Choice.{by_choice}
use Rattle.reader.proofs.Opens as opens
use Rattle.reader.proofs.Exits as exits

module _ (s : List ℕ) (expected : ℕ) where
  pub opening_has : Opens s expected (opened s expected)
  unfolding opened
  opening_has =
      by_choice (Opens s expected) (ltb trace_limit (length s)) (λ h. Opens.overlong (ltb-true _ _ h))
      (λ a. by_choice (Opens s expected) (ltb (length s) header_size) (λ h. Opens.short (ltb-false _ _ a) (ltb-true _ _ h))
      (λ b. by_choice (Opens s expected) (sum_right s)
      (λ e. by_choice (Opens s expected) (eqb (version_of s) expected)
      (λ h. Opens.opens (ltb-false _ _ a) (ltb-false _ _ b) (eqb-true _ _ e) (eqb-true _ _ h))
      (λ h. Opens.another (ltb-false _ _ a) (ltb-false _ _ b) (eqb-true _ _ e) (eqb-false _ _ h)))
      (λ h. Opens.wrong_sum (ltb-false _ _ a) (ltb-false _ _ b) (eqb-false _ _ h))))

  pub opening_is : {t : OpeningTold} → Opens s expected t → t ≡ opened s expected
  opening_is (Opens.overlong h) = opens.too_long s expected h
  opening_is (Opens.short a h) = opens.too_short s expected a h
  opening_is (Opens.wrong_sum a b h) = opens.wrong_sum_lem s expected a b (ne_eqb _ _ h)
  opening_is (Opens.another a b e h) = opens.wrong_version s expected a b (eq-eqb _ _ e) h
  opening_is (Opens.opens a b e h) = opens.right s expected a b (eq-eqb _ _ e) h

module _ (kinds s : List ℕ) (r : ZlfReader) where
  pub next_has : Steps kinds s r (next_of kinds s r)
  unfolding next_of
  next_has =
      by_choice (Steps kinds s r) (ltb trace_limit (length s)) (λ h. Steps.overlong (ltb-true _ _ h))
      (λ a. by_choice (Steps kinds s r) (ltb (length s) (r.place + properties_part)) (λ h. Steps.ended (ltb-false _ _ a) (ltb-true _ _ h))
      (λ b. by_choice (Steps kinds s r) (ltb (length s) (r.place + payload_part)) (λ h. Steps.in_head (ltb-false _ _ a) (ltb-false _ _ b) (ltb-true _ _ h))
      (λ d. by_choice (Steps kinds s r) (ltb (length_at s r.place) (2 ^ 31))
      (λ e. by_choice (Steps kinds s r) (ltb (end_place s r.place) (length s))
      (λ h. Steps.reads (ltb-false _ _ a) (ltb-false _ _ d) (ltb-true _ _ e) (ltb-true _ _ h))
      (λ h. Steps.in_payload (ltb-false _ _ a) (ltb-false _ _ d) (ltb-true _ _ e) (ltb-false _ _ h)))
      (λ h. Steps.negative (ltb-false _ _ a) (ltb-false _ _ d) (ltb-false _ _ h)))))

  pub next_is : {t : NextTold} → Steps kinds s r t → t ≡ next_of kinds s r
  next_is (Steps.overlong h) = exits.too_long kinds s r h
  next_is (Steps.ended a h) = exits.at_end kinds s r a h
  next_is (Steps.in_head a b h) = exits.in_head_lem kinds s r a b h
  next_is (Steps.negative a d h) = exits.negative kinds s r a d h
  next_is (Steps.in_payload a d e h) = exits.in_payload_lem kinds s r a d e h
  next_is (Steps.reads a d e h) = exits.whole kinds s r a d e h
