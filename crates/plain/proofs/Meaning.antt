-- What the plain walk answers, said of the answer: the first of the records from a place on that is not earlier than the target; and none only
-- where all are earlier. Over any trace whose records go on and end inside it. Assumes nothing.
use Prim.Native.Nat.{ℕ, zero, suc, ◌-◌, ◌≤◌}
use lib.IntN.{ℤ}
use lib.Signed.{lt_z}
use mathlib.Core.Bool.{Bool, true, false}
use Rattle.std.specs.Prelude.{Option, None, Some}
use mathlib.Core.Path.{◌≡◌, refl, sym, ap, subst, ◌∙◌}
use native.Mathlib.Omega.{arith}
use Rattle.record.proofs.Steps.{Steps, past_end}
use Rattle.seam.specs.Seam.{Unbroken, ends, more}
use Rattle.span.specs.Met.{Trace}
use Rattle.plain.specs.Plain.{plain_from, FirstAtOrAfter, AllEarlier}
use Rattle.plain.proofs.Chain.{leads_on, stands, plain_stops, plain_passes, plain_found}

module _ (t : Trace) (steps : Steps t.next t.size) (target : ℤ) where
  abbrev next : ℕ → Option ℕ
  next = t.next

  abbrev n : ℕ
  n = t.size

  abbrev plain : ℕ → Option ℕ
  plain at = plain_from t target at

  -- of the records from a place on, one is the first or one of those from its end on
  first_or_later :
      {X : Type 0} {at place k m : ℕ} → next at ≡ Some m → Unbroken next place at k → (place ≡ at → X) → ((j : ℕ) → Unbroken next place m j → X) → X
  first_or_later e ends here later = here refl
  first_or_later {place = place} {m = m} e (more {m = p} {k = j} f u) here later =
      let same : p ≡ m = cc in
      later j (subst (λ (x : ℕ). Unbroken next place x j) same u)

  found_by :
      (k at r : ℕ) → n - at ≤ suc k → (o : Option ℕ) → next at ≡ o → (b : Bool) → lt_z (t.millis at) target ≡ b → plain at ≡ Some r
      → ((i : ℕ) → n - i ≤ k → plain i ≡ Some r → FirstAtOrAfter t target i r) → FirstAtOrAfter t target at r
  found_by k at r enough None e b q is ih = absurd (let z : ◌≡◌ {A = ℕ} 0 1 = cc (plain_stops t steps target at e) in omega arith)
  found_by k at r enough (Some m) e false q is ih =
      let same : r ≡ at = cc (plain_found t steps target at m e q) in
      rw same
      (record {
        begins = record { before = 0; leads = ends; end = m; valid = e };
        late = q;
        none_before = λ place b l. absurd (omega (arith, leads_on next n steps b.leads));
      })
  found_by k at r enough (Some m) e true q is ih =
      let rest : FirstAtOrAfter t target m r = ih m (omega (arith, steps.grows at m e, steps.inside at m e)) (sym (plain_passes t steps target at m e q) ∙ is) in
      record {
        begins = record { before = suc rest.begins.before; leads = more e rest.begins.leads; end = rest.begins.end; valid = rest.begins.valid };
        late = rest.late;
        none_before = λ place b l.
            first_or_later e b.leads (λ same. ap (λ (x : ℕ). lt_z (t.millis x) target) same ∙ q)
            (λ j u. rest.none_before place (record { before = j; leads = u; end = b.end; valid = b.valid }) l);
      }

  found_within : (k at r : ℕ) → n - at ≤ k → plain at ≡ Some r → FirstAtOrAfter t target at r
  found_within zero at r enough is =
      absurd (let z : ◌≡◌ {A = ℕ} 0 1 = cc (plain_stops t steps target at (past_end next n steps at (omega arith))) in omega arith)
  found_within (suc k) at r enough is = found_by k at r enough (next at) refl (lt_z (t.millis at) target) refl is (λ i l e. found_within k i r l e)

  pub found_first : (at r : ℕ) → plain at ≡ Some r → FirstAtOrAfter t target at r
  found_first at r is = found_within n at r (omega arith) is

  none_by :
      (k at : ℕ) → n - at ≤ suc k → (o : Option ℕ) → next at ≡ o → (b : Bool) → lt_z (t.millis at) target ≡ b → plain at ≡ None
      → ((i : ℕ) → n - i ≤ k → plain i ≡ None → AllEarlier t target i) → AllEarlier t target at
  none_by k at enough None e b q is ih place begins =
      let stands_here : (m : ℕ) × (next at ≡ Some m) = stands next n steps begins.leads begins.valid in
      absurd (let z : ◌≡◌ {A = ℕ} 0 1 = cc stands_here.1 in omega arith)
  none_by k at enough (Some m) e false q is ih place begins = absurd (let z : ◌≡◌ {A = ℕ} 0 1 = cc (plain_found t steps target at m e q) in omega arith)
  none_by k at enough (Some m) e true q is ih place begins =
      let rest : AllEarlier t target m = ih m (omega (arith, steps.grows at m e, steps.inside at m e)) (sym (plain_passes t steps target at m e q) ∙ is) in
      first_or_later e begins.leads (λ same. ap (λ (x : ℕ). lt_z (t.millis x) target) same ∙ q)
      (λ j u. rest place (record { before = j; leads = u; end = begins.end; valid = begins.valid }))

  none_within : (k at : ℕ) → n - at ≤ k → plain at ≡ None → AllEarlier t target at
  none_within zero at enough is place begins =
      absurd (omega (arith, leads_on next n steps begins.leads, steps.grows place begins.end begins.valid, steps.inside place begins.end begins.valid))
  none_within (suc k) at enough is place begins = none_by k at enough (next at) refl (lt_z (t.millis at) target) refl is (none_within k) place begins

  pub none_found : (at : ℕ) → plain at ≡ None → AllEarlier t target at
  none_found at is = none_within n at (omega arith) is
