-- The whole seek and the stepped one answer what the plain one does: on 02's premises, and on weaker ones. The invariant of the halvings: records lead from the
-- first one to lo, and the plain walk from lo answers what it answers from the first. Assumes nothing.
use Prim.Native.Nat.{ℕ, zero, suc, ◌+◌, ◌-◌, ◌≤◌}
use borrow.Author.Tests.{le-ltb}
use lib.Dec.{ltb}
use lib.IntN.{ℤ}
use lib.Signed.{lt_z, ◌≤ℤ◌, lt_z_yes, lt_z_no, <ℤ-≤ℤ_trans, clash_ℤ}
use mathlib.Core.Bool.{Bool, true, false, cond, true≢false}
use mathlib.Core.List.{List}
use mathlib.Core.Logic.{◌↔◌}
use Rattle.std.specs.Prelude.{Option, None, Some}
use mathlib.Core.Path.{◌≡◌, refl, sym, ap, subst, ◌∙◌}
use native.Mathlib.Omega.{arith}
use Rattle.choice.proofs.Choice.{right_true, by_choice}
use Rattle.layout.specs.Layout.{header_size, trace_limit}
use Rattle.record.proofs.Steps.{Steps, past_end}
use Rattle.record.proofs.Valid.{record_steps}
use Rattle.record.specs.Record.{Limits}
use Rattle.resync.proofs.Chain.{boundary_record}
use Rattle.resync.specs.Boundary.{boundary}
use Rattle.seam.proofs.Boundaries.{is_boundary}
use Rattle.seam.specs.Seam.{Unbroken, ends, more}
use Rattle.seek.proofs.Agree.{search_driven}
use Rattle.seek.proofs.Driven.{driven_only}
use Rattle.seek.proofs.Halvings.{earlier_found}
use Rattle.seek.proofs.Laws.{found_right}
use Rattle.seek.proofs.Walks as Walks
use Rattle.seek.specs.Seek.{wide, middle, earlier, next_lo, next_hi, Bracket, narrowed, walked, SeekTold, seek_told, no_seek, bracket, seek_of}
use Rattle.seek.specs.Step.{start_at, Driven}
use Rattle.seek.specs.declared.SeekState.TheVariants.{Searching}
use Rattle.span.proofs.Meets.{Meets, meets, MetAt, met_at_lem, met_at}
use Rattle.span.specs.Met.{Trace, trace_of, MetTold, meet, first_met}
use Rattle.plain.specs.Plain.{plain_from, Begins, FirstAtOrAfter, PlainTold, plain_told, no_plain, plain_of}
use Rattle.plain.specs.Premises.{HasFirst, Premises, Parted, NoEarlierBoundary, Enough, AnswerIsBoundary, ButUnbroken}
use Rattle.plain.specs.Agree.{answer_of, SameAsPlain}
use Rattle.plain.proofs.Chain.{leads_on, stays_inside, one_after, between, stands, boundary_before, met_here, plain_stops, plain_passes, plain_found}
use Rattle.plain.proofs.Meaning.{found_first}

module _ (t : Trace) (steps : Steps t.next t.size) (target : ℤ) where
  abbrev next : ℕ → Option ℕ
  next = t.next

  abbrev n : ℕ
  n = t.size

  abbrev first : ℕ
  first = (first_met t).offset

  abbrev plain : ℕ → Option ℕ
  plain at = plain_from t target at

  abbrev walk : ℕ → Option ℕ
  walk at = walked (meet t) n target n at

  ms : Meets (meet t) n
  ms = meets t steps

  -- what the halvings and the walk keep of a place: records lead there, and the plain walk from there answers what it does from the first
  record Kept (lo : ℕ) : Type 0 where
    before : ℕ
    leads : Unbroken next lo first before
    same : plain first ≡ plain lo

  module _ (has_first : HasFirst t) where
    first_met_lem : MetAt t header_size (first_met t)
    first_met_lem = met_at_lem t header_size has_first

    module _ (parted : Parted t target first) (no_earlier : NoEarlierBoundary t target first) where
      -- all records up to an earlier one are earlier, so that the plain walk passes them
      passed :
          {to at j k end : ℕ} → Unbroken next at first j → Unbroken next to at k → next to ≡ Some end → lt_z (t.millis to) target ≡ true
          → (lt_z (t.millis at) target ≡ true) × (plain at ≡ plain end)
      passed {to = to} {end = end} lead ends f q = (q, plain_passes t steps target to end f q)
      passed {j = j} lead (more {at} {m} {k} e u) f q =
          let lead_on : Unbroken next m first (suc j) = one_after next n steps lead e in
          let rest : _ = passed lead_on u f q in
          let here : Begins t first at = record { before = j; leads = lead; end = m; valid = e } in
          let there : Begins t first m = record { before = suc j; leads = lead_on; end = (stands next n steps u f).0; valid = (stands next n steps u f).1 } in
          let early : lt_z (t.millis at) target ≡ true = parted at m here e there rest.0 in
          (early, plain_passes t steps target at m e early ∙ rest.1)

      module _ (lo mid : ℕ) (above : lo ≤ mid) (kept : Kept lo) where
        -- an earlier record was met from the middle: it is one of the records, and lo moves to its end
        moved : earlier target (meet t mid) ≡ true → Kept (meet t mid).end
        moved e =
            let m : MetTold = meet t mid in
            let at : MetAt t mid m = met_at_lem t mid (earlier_found target m e) in
            let from : first ≤ lo = leads_on next n steps kept.leads in
            let early : lt_z (t.millis m.offset) target ≡ true = ap (λ (z : ℤ). lt_z z target) (sym at.time) ∙ right_true m.is_found (lt_z m.millis target) e in
            let is : Begins t first m.offset = no_earlier m.offset (omega (arith, at.start)) at.is_boundary early in
            let run : _ = between next n steps kept.leads is.leads (omega (arith, at.start)) in
            record {
              before = suc is.before;
              leads = one_after next n steps is.leads at.ends;
              same = kept.same ∙ (passed kept.leads run.1 at.ends early).1;
            }

        next_kept : Kept (next_lo target lo (meet t mid))
        next_kept = by_choice Kept (earlier target (meet t mid)) moved (λ e. kept)

      narrows : (k lo hi : ℕ) → Kept lo → Kept (narrowed (meet t) target k lo hi).lo
      unfolding narrowed
      narrows zero lo hi kept = kept
      narrows (suc k) lo hi kept =
          by_choice (λ (b : Bracket). Kept b.lo) (wide lo hi)
          (λ w. narrows k (next_lo target lo (meet t (middle lo hi))) (next_hi target (middle lo hi) hi (meet t (middle lo hi))) (next_kept lo (middle lo hi) (omega arith) kept))
          (λ w. kept)

      -- what is left to each theorem: a kept place that is no boundary
      module _ (elsewhere : (at : ℕ) → Kept at → boundary next n at ≡ false → walk at ≡ plain at) where
        -- the walk from a kept place
        walks_by :
            (k at m : ℕ) → n - at ≤ suc k → Kept at → next at ≡ Some m → met_at at m (t.millis at) ≡ meet t at → (b : Bool) → lt_z (t.millis at) target ≡ b
            → ((i : ℕ) → n - i ≤ k → Kept i → walk i ≡ plain i) → walk at ≡ plain at
        walks_by k at m enough kept e is true q ih =
            let grows : at + 15 ≤ m = steps.grows at m e in
            let inside : m ≤ n = steps.inside at m e in
            let further : Kept m =
            record { before = suc kept.before; leads = one_after next n steps kept.leads e; same = kept.same ∙ plain_passes t steps target at m e q } in
            Walks.passes (meet t) n ms target n at (omega arith) (omega arith) at m (t.millis at) is q ∙ ih m (omega arith) further ∙ sym (plain_passes t steps target at m e q)
        walks_by k at m enough kept e is false q ih =
            let grows : at + 15 ≤ m = steps.grows at m e in
            let inside : m ≤ n = steps.inside at m e in
            Walks.answers (meet t) n ms target n at (omega arith) (omega arith) at m (t.millis at) is q ∙ sym (plain_found t steps target at m e q)

        walks_at : (k at : ℕ) → n - at ≤ suc k → Kept at → (b : Bool) → boundary next n at ≡ b → ((i : ℕ) → n - i ≤ k → Kept i → walk i ≡ plain i) → walk at ≡ plain at
        walks_at k at enough kept true is ih =
            let m : (m : ℕ) × (next at ≡ Some m) = boundary_record next n at is in
            let low : header_size ≤ at = omega (arith, first_met_lem.start, leads_on next n steps kept.leads) in
            walks_by k at m.0 enough kept m.1 (met_here t steps first_met_lem.fits at m.0 low is m.1) (lt_z (t.millis at) target) refl ih
        walks_at k at enough kept false is ih = elsewhere at kept is

        walks : (k at : ℕ) → n - at ≤ k → Kept at → walk at ≡ plain at
        walks zero at enough kept =
            Walks.at_end (meet t) n ms target n at (omega arith) ∙ sym (plain_stops t steps target at (past_end next n steps at (omega arith)))
        walks (suc k) at enough kept = walks_at k at enough kept (boundary next n at) refl (walks k)

        -- from where the halvings leave lo
        answer : walk (bracket t target).lo ≡ plain first
        answer =
            let kept : Kept (bracket t target).lo = narrows n first n (record { before = 0; leads = ends; same = refl }) in
            walks n (bracket t target).lo (omega arith) kept ∙ sym kept.same

        agree : SameAsPlain t target
        unfolding plain_of seek_of start_at
        agree =
            record {
              found = plain first;
              plain = simp (le-ltb trace_limit n first_met_lem.fits, has_first);
              halvings = (bracket t target).halvings;
              whole = simp (le-ltb trace_limit n first_met_lem.fits, has_first) (ap (seek_told (bracket t target).halvings) answer);
              state = Searching first n;
              starts = simp (le-ltb trace_limit n first_met_lem.fits, has_first);
              stepped = driven;
              always = λ other turns d. (driven_only t target d driven).0;
            }
          where
            driven : Driven t target (Searching first n) (plain first) (bracket t target).halvings
            driven =
                subst (λ (o : Option ℕ). Driven t target (Searching first n) o (bracket t target).halvings) answer
                (search_driven t steps first_met_lem.fits target n first n (omega arith) (omega arith))

  -- On an unbroken trace only its end is kept and no boundary
  at_the_end : {at k : ℕ} → Unbroken next n at k → boundary next n at ≡ false → walk at ≡ plain at
  at_the_end ends other = Walks.at_end (meet t) n ms target n n (omega arith) ∙ sym (plain_stops t steps target n (past_end next n steps n (omega arith)))
  at_the_end (more e u) other = absurd (true≢false (sym (is_boundary next n steps (more e u)) ∙ other))

  -- the weaker premises are enough
  pub same_enough : Enough t target → SameAsPlain t target
  same_enough p =
      agree p.has_first p.parted p.no_earlier
      (λ at kept other.
      let inside : at ≤ n = stays_inside next n steps kept.leads (leads_on next n steps p.unbroken.1) in
      at_the_end (between next n steps kept.leads p.unbroken.1 inside).1 other)

  -- All but unbroken: the seeks agree exactly where what the plain seek finds is a boundary
  module _ (p : ButUnbroken t target) where
    -- what a search from a kept place meets that is no boundary: nothing, since a boundary further on would make it one
    meets_none : (at : ℕ) → Kept at → boundary next n at ≡ false → (b : Bool) → (meet t at).is_found ≡ b → (meet t at).is_found ≡ false
    meets_none at kept other false is = is
    meets_none at kept other true is =
        let m : MetAt t at (meet t at) = met_at_lem t at is in
        let from : first ≤ at = leads_on next n steps kept.leads in
        let there : Begins t first (meet t at).offset = p.no_other (meet t at).offset (omega (arith, m.start)) m.is_boundary in
        let run : _ = between next n steps kept.leads there.leads (omega (arith, m.start)) in
        absurd (true≢false (sym (boundary_before next n steps run.1 m.is_boundary) ∙ other))

    -- the plain walk finds none either: the record that it finds is a boundary, and that would make the place one
    plain_none : AnswerIsBoundary t target first → (at : ℕ) → Kept at → boundary next n at ≡ false → (o : Option ℕ) → plain at ≡ o → plain at ≡ None
    plain_none boundaries at kept other None e = e
    plain_none boundaries at kept other (Some r) e =
        let is : FirstAtOrAfter t target at r = found_first t steps target at r e in
        absurd (true≢false (sym (boundary_before next n steps is.begins.leads (boundaries r (kept.same ∙ e))) ∙ other))

    same_by : AnswerIsBoundary t target first → SameAsPlain t target
    same_by boundaries =
        agree p.has_first p.parted (λ at from is early. p.no_other at from is)
        (λ at kept other.
        Walks.none_met_at (meet t) n ms target n at (meets_none at kept other (meet t at).is_found refl) ∙ sym (plain_none boundaries at kept other (plain at) refl))

    -- what the plain seek finds, in the definition's answer
    plain_is : plain_of t target ≡ plain_told (plain first)
    unfolding plain_of
    plain_is = simp (le-ltb trace_limit n (first_met_lem p.has_first).fits, p.has_first)

    told_some : (o : Option ℕ) (at : ℕ) → plain_told (Some at) ≡ plain_told o → o ≡ Some at
    told_some None at e = absurd (true≢false (ap (λ (x : PlainTold). x.is_found) e))
    told_some (Some r) at e = ap Some (sym (ap (λ (x : PlainTold). x.offset) e))

    -- where the seeks agree, it is a boundary, as all that the whole seek finds is
    boundary_by : SameAsPlain t target → AnswerIsBoundary t target first
    boundary_by same at e =
        let found : same.found ≡ Some at = told_some same.found at (ap plain_told (sym e) ∙ sym plain_is ∙ same.plain) in
        let whole : seek_of t target ≡ seek_told same.halvings (Some at) = same.whole ∙ ap (seek_told same.halvings) found in
        let right : _ = found_right t steps target (ap (λ (x : SeekTold). x.is_found) whole) in
        ap (λ (x : SeekTold). boundary next n x.offset) (sym whole) ∙ right.0

    pub exactly : AnswerIsBoundary t target first ↔ SameAsPlain t target
    exactly = (same_by, boundary_by)

-- a time that is not after an earlier one is earlier too
earlier_by : (a b c : ℤ) → a ≤ℤ b → lt_z b c ≡ true → (x : Bool) → lt_z a c ≡ x → lt_z a c ≡ true
earlier_by a b c h e true q = q
earlier_by a b c h e false q = clash_ℤ (<ℤ-≤ℤ_trans {a = b} {b = c} {c = a} (lt_z_yes (rw e tt)) (lt_z_no (rw q tt))) h

-- 02: "Prove the whole seek and the stepped one equal to it, on these premises"
pub same_as_plain : (t : Trace) → Steps t.next t.size → (target : ℤ) → Premises t → SameAsPlain t target
same_as_plain t steps target p =
    same_enough t steps target
    (record {
      has_first = p.has_first;
      unbroken = p.unbroken;
      parted = λ at after b e a q. earlier_by (t.millis at) (t.millis after) target (p.in_order at after b e a) q (lt_z (t.millis at) target) refl;
      no_earlier = λ at from is early. p.no_other at from is;
    })

-- The first premise is not needed for the whole seek: without a first record it answers as the plain one does, none or refusal 1, whatever else holds. (For the
-- stepped seek it is needed: `first_needed` of `plain_examples`.)
pub no_first_either : (t : Trace) (target : ℤ) → (first_met t).is_found ≡ false → answer_of (seek_of t target) ≡ plain_of t target
unfolding plain_of seek_of
no_first_either t target e = simp e (either_by (ltb trace_limit t.size))
  where
    either_by : (b : Bool) → answer_of (cond b no_seek (seek_told 0 None)) ≡ cond b no_plain (plain_told None)
    either_by true = refl
    either_by false = refl

-- of the bytes of a trace, whatever the limits of a record's ticks
pub same_in : (limits : Limits) (kinds s : List ℕ) → Premises (trace_of limits kinds s) → (target : ℤ) → SameAsPlain (trace_of limits kinds s) target
same_in limits kinds s p target = same_as_plain (trace_of limits kinds s) (record_steps limits kinds s) target p
