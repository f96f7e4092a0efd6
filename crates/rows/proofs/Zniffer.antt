-- The frames that a payload's bytes complete: a run's part in them, and that a walk over them goes on. Assumes nothing.
use Prim.Native.Nat.{ℕ, zero, suc, ◌+◌, ◌-◌, ◌≤◌, ◌<◌}
use lib.ListN.{length, take, drop, length-drop, drop_of_length-le}
use lib.Seq.{drop-drop}
use mathlib.Core.Bool.{Bool, true, false, true≢false}
use mathlib.Core.List.{List, [], ◌∷◌, ◌++◌}
use mathlib.Core.Path.{◌≡◌, refl, sym, ap, ◌∙◌}
use native.Mathlib.Decide.{dec_le}
use native.Mathlib.Numerals.{unary_clauses}
use native.Mathlib.Omega.{arith}
use native.Mathlib.Nat.{add_assoc}
use Rattle.std.proofs.lemmas.List.{take_rest}
use Rattle.choice.proofs.Choice.{either}
use Rattle.zniffer_laws.proofs.AfterStep.{fresh_after}
use Rattle.zniffer_core.proofs.RunLaws.{used_most, used_some}
use Rattle.std.specs.Prelude.{None, Some}
use Rattle.zniffer_numbers.specs.Numbers.{fresh_core, goes_on}
use Rattle.zniffer_core.specs.Run.{core_step_of, core_run_from}
use Rattle.zniffer_numbers.specs.declared.Core.{Core}
use Rattle.zniffer_core.specs.declared.CoreRan.{CoreRan}
use Rattle.zniffer_numbers.specs.declared.ParserResult.{ParserResult}
use Rattle.zniffer_numbers.specs.declared.ParserResult.TheVariants.{ValidCommand, ValidFrame, IncompleteFrame, InvalidFrame}
use Rattle.rows.specs.Frames.{Placed, completed, completed_by, zniffer_from, first_of}
use Rattle.rows.specs.declared.NextFrame.{NextFrame}
use Rattle.rows.proofs.Goes.{Goes, earlier}

-- while more bytes are wanted nothing is complete
wanted : (out : Bool) (end : ℕ) (r : ParserResult) → goes_on r ≡ true → completed out end r ≡ []
wanted out end IncompleteFrame e = refl
wanted out end InvalidFrame e = refl
wanted out end (ValidCommand i n) e = refl
wanted out end (ValidFrame w k v g r n) e = absurd (true≢false (sym e))

used_on : (bs : List ℕ) (k : ℕ) (c : Core) → k ≤ (core_run_from k bs c).used
unfolding core_run_from
used_on [] k c = omega arith
used_on (b ∷ bs) k c =
    let h = used_on bs (k + 1) (core_step_of c b).core in
    either (goes_on (core_step_of c b).result) (λ yes'. rw yes' (omega (arith, h))) (λ no'. rw no' (omega arith))

module _ (out : Bool) (at : ℕ) where
  -- a run that wants more bytes completes nothing
  run_on : (bs : List ℕ) (k : ℕ) (c : Core) → goes_on (core_run_from k bs c).result ≡ true → completed_by out (at + k) bs c ≡ []
  unfolding completed_by core_run_from
  run_on [] k c e = refl
  run_on (b ∷ bs) k c e =
      either (goes_on (core_step_of c b).result)
      (λ yes'. rw (wanted out (at + k + 1) (core_step_of c b).result yes') (rw (add_assoc at k 1) (run_on bs (k + 1) (core_step_of c b).core (rw yes' at e))))
      (λ no'. absurd (true≢false (sym (rw no' at e) ∙ no')))

  -- a run that ends with a result completes what the result says, and the bytes after it go to a fresh parser
  run_done : (bs : List ℕ) (k : ℕ) (c : Core) → goes_on (core_run_from k bs c).result ≡ false
      → completed_by out (at + k) bs c
      ≡ completed out (at + (core_run_from k bs c).used) (core_run_from k bs c).result ++ completed_by out (at + (core_run_from k bs c).used) (drop ((core_run_from k bs c).used - k) bs) fresh_core
  unfolding completed_by core_run_from
  run_done [] k c e = absurd (true≢false e)
  run_done (b ∷ bs) k c e =
      either (goes_on (core_step_of c b).result)
      (λ yes'.
      let core = (core_step_of c b).core in
      let used = (core_run_from (k + 1) bs core).used in
      let more : used - k ≡ suc (used - (k + 1)) = omega (arith, used_on bs (k + 1) core) in
      rw yes' (rw (wanted out (at + k + 1) (core_step_of c b).result yes') (rw more (rw (add_assoc at k 1) (run_done bs (k + 1) core (rw yes' at e))))))
      (λ no'.
      let one : k + 1 - k ≡ 1 = omega arith in
      rw no' (rw one (rw (fresh_after c b no') (rw (add_assoc at k 1) refl))))

-- the same from a place in a payload, in a fresh parser; r is what the run gave, and u the bytes used
module _ (out : Bool) (p : List ℕ) (from : ℕ) where
  abbrev ran : CoreRan
  ran = core_run_from 0 (drop from p) fresh_core

  pub past_end : length p ≤ from → zniffer_from out p from ≡ []
  unfolding completed_by
  past_end h = rw (drop_of_length-le p h)

  pub wants_more : goes_on ran.result ≡ true → zniffer_from out p from ≡ []
  wants_more e = simp unary_clauses at (run_on out from (drop from p) 0 fresh_core e)

  pub gave : goes_on ran.result ≡ false → zniffer_from out p from ≡ completed out (from + ran.used) ran.result ++ zniffer_from out p (from + ran.used)
  gave e = rw (sym (drop-drop ran.used from p)) (simp unary_clauses at (run_done out from (drop from p) 0 fresh_core e))

  pub used_inside : from ≤ length p → from + ran.used ≤ length p
  used_inside h = omega (arith, used_most (drop from p) 0 fresh_core, length-drop from p)

  pub used_further : from < length p → from < from + ran.used
  used_further h = omega (arith, used_some (drop from p) 0 fresh_core (omega (arith, length-drop from p)))

module _ (out : Bool) (p : List ℕ) where
  goes_result : (from end : ℕ) → from < end → end ≤ length p → (r : ParserResult)
      → Goes (zniffer_from out p) (length p) end (zniffer_from out p end)
      → Goes (zniffer_from out p) (length p) from (completed out end r ++ zniffer_from out p end)
  unfolding Goes
  goes_result from end f i (ValidFrame w k v g r n) later = record { rest = refl; further = f; inside = i; mpdu_inside = omega arith }
  goes_result from end f i (ValidCommand c n) later = earlier (zniffer_from out p) (length p) from end (omega arith) (zniffer_from out p end) later
  goes_result from end f i IncompleteFrame later = earlier (zniffer_from out p) (length p) from end (omega arith) (zniffer_from out p end) later
  goes_result from end f i InvalidFrame later = earlier (zniffer_from out p) (length p) from end (omega arith) (zniffer_from out p end) later

  goes_at : (from : ℕ) → ((end : ℕ) → from < end → Goes (zniffer_from out p) (length p) end (zniffer_from out p end)) → Dec (length p ≤ from)
      → Goes (zniffer_from out p) (length p) from (zniffer_from out p from)
  unfolding Goes
  goes_at from ih (yes l) = rw (past_end out p from l) tt
  goes_at from ih (no l) =
      let end = from + (ran out p from).used in
      let further : from < end = used_further out p from (omega arith) in
      either (goes_on (ran out p from).result)
      (λ yes'. rw (wants_more out p from yes') tt)
      (λ no'.
      rw (gave out p from no')
      (goes_result from end further (used_inside out p from (omega arith)) (ran out p from).result (ih end further)))

  goes_by : (t from : ℕ) → length p ≤ from + t → Goes (zniffer_from out p) (length p) from (zniffer_from out p from)
  unfolding Goes
  goes_by zero from h = rw (past_end out p from (omega arith)) tt
  goes_by (suc t) from h = goes_at from (λ end l. goes_by t end (omega arith)) (dec_le (length p) from)

  pub goes : (from : ℕ) → Goes (zniffer_from out p) (length p) from (zniffer_from out p from)
  goes from = goes_by (length p) from (omega arith)

-- a result that does not want more bytes completes a frame or none
done : (out : Bool) (end : ℕ) (r : ParserResult) → (r ≡ IncompleteFrame → ⊥) → goes_on r ≡ false
done out end (ValidCommand i n) a = refl
done out end InvalidFrame a = refl
done out end IncompleteFrame a = absurd (a refl)
done out end (ValidFrame w k v g s n) a = refl

none_of : (l : List Placed) → None ≡ first_of l → l ≡ []
none_of [] e = refl
none_of (f ∷ fs) e = absurd cc

first_of_two : (l m : List Placed) (x : NextFrame) → Some x ≡ first_of l → Some x ≡ first_of (l ++ m)
first_of_two [] m x e = absurd cc
first_of_two (f ∷ fs) m x e = e

-- what the code meets from a place on; r is what the bytes from there gave
module _ (out : Bool) (p : List ℕ) (from : ℕ) where
  pub none_met : length p ≤ from → None ≡ first_of (zniffer_from out p from)
  none_met h = rw (past_end out p from h)

  module _ (r : CoreRan) (r-is : r ≡ core_run_from 0 (take (length p - from) (drop from p)) fresh_core) where
    is_run : r ≡ ran out p from
    is_run = r-is ∙ ap (λ (l : List ℕ). core_run_from 0 l fresh_core) (take_rest p from)

    pub run_met : from < length p → (from < from + r.used) × (from + r.used ≤ length p)
    run_met h = rw is_run (used_further out p from h, used_inside out p from (omega arith))

    pub incomplete : r.result ≡ IncompleteFrame → None ≡ first_of (zniffer_from out p from)
    incomplete e =
        let on : goes_on (ran out p from).result ≡ true = ap (λ (x : CoreRan). goes_on x.result) (sym is_run) ∙ ap goes_on e in
        rw (wants_more out p from on)

    module _ (a : r.result ≡ IncompleteFrame → ⊥) where
      ended : zniffer_from out p from ≡ completed out (from + r.used) r.result ++ zniffer_from out p (from + r.used)
      ended = rw is_run (gave out p from (rw is_run at (done out (from + r.used) r.result a)))

      pub a_frame : (x : NextFrame) → Some x ≡ first_of (completed out (from + r.used) r.result) → Some x ≡ first_of (zniffer_from out p from)
      a_frame x e = rw ended (first_of_two (completed out (from + r.used) r.result) (zniffer_from out p (from + r.used)) x e)

      pub passed : None ≡ first_of (completed out (from + r.used) r.result) → zniffer_from out p (from + r.used) ≡ zniffer_from out p from
      passed e = sym (rw (none_of (completed out (from + r.used) r.result) e) at ended)

pub ruleset turns = (none_met, run_met, incomplete, a_frame, passed)
