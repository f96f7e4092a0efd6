-- A Zniffer frame: it takes 10 bytes or more, its payload's among them, and its numbers are small. Each byte brings a parser one on in the
-- order of its states, and a frame is given by the last. (It takes 11: the timestamp's two bytes count as one here.) Assumes nothing.
use Prim.Native.Nat.{ℕ, ◌+◌, ◌-◌, ◌≤◌, ◌<◌}
use lib.Dec.{eqb, leb, ltb}
use mathlib.Core.Bool.{Bool, true, false, not, cond, ◌&&◌, and-false, false≢true}
use mathlib.Core.List.{List, [], ◌∷◌}
use mathlib.Core.Path.{◌≡◌, sym, ap, subst}
use native.Mathlib.Omega.{arith}
use borrow.Author.Tests.{ltb-true, ltb-false, eqb-true, lt-leb, ne_eqb}
use Rattle.choice.proofs.Choice.{left_true, right_true, either, by_choice}
use Rattle.zniffer_numbers.specs.Numbers.{fresh_core, goes_on}
use Rattle.zniffer_numbers.specs.declared.Core.{Core}
use Rattle.zniffer_numbers.specs.declared.CoreStep.{CoreStep}
use Rattle.zniffer_numbers.specs.declared.ParserResult.{ParserResult}
use Rattle.zniffer_numbers.specs.declared.ParserResult.TheVariants.{ValidCommand, ValidFrame, IncompleteFrame, InvalidFrame}
use Rattle.zniffer_tests.specs.Tests.{command_ok, type_ok, region_ok, no_region, no_channel, no_frame, timed, placed, framed, headed, reachable_of}
use Rattle.zniffer_states.specs.Step.{with_length, going, done, start_of_frame, command_id, type_byte, time_byte, place_byte, region_byte, rssi_byte, data_one, data_two, length_byte, whole, payload_byte, take_of}
use Rattle.zniffer_states.proofs.Laws.{both, by_state}
use Rattle.zniffer_core.specs.Run.{core_step_of, core_run_from}

-- how many bytes of a frame a parser has taken at least, by its state, whether it has a frame's type, and its payload bytes; a command counts 0
abbrev gone_at : ℕ → Bool → ℕ → ℕ
gone_at s t n = cond (leb 4 s) (s - 3) (cond t (cond (eqb s 3) (9 + n) 8) 0)

abbrev gone : Core → ℕ
gone c = gone_at c.state (type_ok c.frame_type) c.count

-- what a step may give from a parser that has taken w
Costs : ℕ → Core → ParserResult → Type 0
Costs w c IncompleteFrame = gone c ≤ w + 1
Costs w c InvalidFrame = Unit
Costs w c (ValidCommand i n) = Unit
Costs w c (ValidFrame t k v g r n) = (9 ≤ w) × ((n ≤ w) × ((k < 8) × ((v < 32) × (g < 256))))

abbrev StepCosts : ℕ → CoreStep → Type 0
StepCosts w s = Costs w s.core s.result

-- a region is a byte
region_small : (g : ℕ) → region_ok g ≡ true → g < 256
region_small g ok =
    either (ltb g 256) (ltb-true g 256)
    (λ e.
    let l : 256 ≤ g = ltb-false g 256 e in
    let z : region_ok g ≡ false = simp (lt-leb g 3 (omega arith), lt-leb g 9 (omega arith), and-false, ne_eqb g 11 (λ z. omega arith), ne_eqb g 32 (λ z. omega arith), ne_eqb g 33 (λ z. omega arith)) in
    let y : ◌≡◌ {A = ℕ} 0 1 = cc in
    absurd (omega arith))

module _ (c : Core) where
  framed_small : framed c ≡ true → (c.channel < 8) × ((c.speed < 32) × (c.region < 256))
  framed_small h =
      let p : placed c ≡ true = left_true (placed c) (region_ok c.region) h in
      let q : (ltb c.channel 8 && ltb c.speed 32) ≡ true = right_true (timed c) (ltb c.channel 8 && ltb c.speed 32) p in (
        ltb-true c.channel 8 (left_true (ltb c.channel 8) (ltb c.speed 32) q),
        (
          ltb-true c.speed 32 (right_true (ltb c.channel 8) (ltb c.speed 32) q),
          region_small c.region (right_true (placed c) (region_ok c.region) h),
        ),
      )

  none_small : no_channel c ≡ true → (c.channel < 8) × ((c.speed < 32) × (c.region < 256))
  none_small h =
      let p : (eqb c.channel 0 && eqb c.speed 0) ≡ true = left_true (eqb c.channel 0 && eqb c.speed 0) (no_region c) h in
      let channel : c.channel ≡ 0 = eqb-true c.channel 0 (left_true (eqb c.channel 0) (eqb c.speed 0) p) in
      let speed : c.speed ≡ 0 = eqb-true c.speed 0 (right_true (eqb c.channel 0) (eqb c.speed 0) p) in
      let region : c.region ≡ 0 = eqb-true c.region 0 (left_true (eqb c.region 0) (eqb c.rssi 0) (right_true (eqb c.channel 0 && eqb c.speed 0) (no_region c) h)) in
      (omega arith, (omega arith, omega arith))

  -- a parser with a header has a command's, and no numbers of a frame, or a frame's
  headed_small : headed c ≡ true → (c.channel < 8) × ((c.speed < 32) × (c.region < 256))
  headed_small h =
      either (command_ok c.command_id && no_frame c)
      (λ e. none_small (right_true (eqb c.frame_type 0 && (eqb c.timestamp 0 && not c.timestamp_state)) (no_channel c) (right_true (command_ok c.command_id) (no_frame c) e)))
      (λ e. framed_small (right_true (eqb c.command_id 0) (framed c) (rw e at h)))

  module _ (b : ℕ) (ok : reachable_of c ≡ true) where
    abbrev typed : Bool
    typed = type_ok c.frame_type

    -- in a state that is known
    at : (s : ℕ) (step : CoreStep) → c.state ≡ s → StepCosts (gone_at s typed c.count) step → StepCosts (gone c) step
    at s step e = subst (λ (k : ℕ). StepCosts (gone_at k typed c.count) step) (sym e)

    -- one state on, with a frame's type or without
    on : (P : Bool → Type 0) → P true → P false → P typed
    on P x y = either_is typed
      where
        either_is : (t : Bool) → P t
        either_is true = x
        either_is false = y

    -- the last byte of a payload
    whole_costs : c.state ≡ 3 → c.count + 1 ≡ c.length → StepCosts (gone_at 3 typed c.count) (done (whole c))
    unfolding Costs
    whole_costs e z =
        by_choice (Costs (gone_at 3 typed c.count) fresh_core) typed
        {a = ValidFrame c.timestamp c.channel c.speed c.region c.rssi c.length} {b = ValidCommand c.command_id c.length}
        (λ y.
        let w : gone_at 3 typed c.count ≡ 9 + c.count = ap (λ (t : Bool). gone_at 3 t c.count) y in
        (omega arith, (omega arith, headed_small (left_true (headed c) (ltb c.count c.length) (rw e at ok)))))
        (λ _. tt)

    take_costs : StepCosts (gone c) (take_of c b)
    unfolding Costs
    take_costs =
        let n = c.count in
        by_state (StepCosts (gone c)) c b
        (λ e.
        at 0 (start_of_frame c b) e
        (both (StepCosts (gone_at 0 typed n)) (eqb b 0x23) (on (λ (t : Bool). gone_at 1 t n ≤ gone_at 0 t n + 1) (omega arith) (omega arith))
        (both (StepCosts (gone_at 0 typed n)) (eqb b 0x21) (on (λ (t : Bool). gone_at 4 t n ≤ gone_at 0 t n + 1) (omega arith) (omega arith))
        (omega (arith, ap (λ (s : ℕ). gone_at s typed n) e)))))
        (λ e.
        at 1 (command_id c b) e
        (both (StepCosts (gone_at 1 typed n)) (command_ok b) (on (λ (t : Bool). gone_at 2 t n ≤ gone_at 1 t n + 1) (omega arith) (omega arith)) tt))
        (λ e.
        at 2 (length_byte c b) e
        (both (StepCosts (gone_at 2 typed n)) (eqb b 0) tt (on (λ (t : Bool). gone_at 3 t 0 ≤ gone_at 2 t n + 1) (omega arith) (omega arith))))
        (λ e.
        at 3 (payload_byte c) e
        (by_choice (StepCosts (gone_at 3 typed n)) (eqb (n + 1) c.length) {a = done (whole c)} {b = going (with_length c.length (n + 1) c)}
        (λ z. whole_costs e (eqb-true (n + 1) c.length z))
        (λ z.
        subst (λ (s : ℕ). gone_at s typed (n + 1) ≤ gone_at 3 typed n + 1) (sym e)
        (on (λ (t : Bool). gone_at 3 t (n + 1) ≤ gone_at 3 t n + 1) (omega arith) (omega arith)))))
        (λ e. at 4 (type_byte c b) e (both (StepCosts (gone_at 4 typed n)) (type_ok b) (omega arith) tt))
        (λ e. at 5 (time_byte c b) e (both (StepCosts (gone_at 5 typed n)) c.timestamp_state (omega arith) (omega arith)))
        (λ e. at 6 (place_byte c b) e (omega arith))
        (λ e. at 7 (region_byte c b) e (both (StepCosts (gone_at 7 typed n)) (region_ok b) (omega arith) tt))
        (λ e. at 8 (rssi_byte c b) e (omega arith))
        (λ e. at 9 (data_one c b) e (both (StepCosts (gone_at 9 typed n)) (eqb b 0x21) (omega arith) tt))
        (λ e.
        at 10 (data_two c b) e
        (both (StepCosts (gone_at 10 typed n)) (eqb b 0x03) (on (λ (t : Bool). gone_at 2 t n ≤ gone_at 10 t n + 1) (omega arith) (omega arith)) tt))
        tt

step_costs : (c : Core) (b : ℕ) → StepCosts (gone c) (core_step_of c b)
unfolding core_step_of Costs
step_costs c b = by_choice (StepCosts (gone c)) (reachable_of c) (λ ok. take_costs c b ok) (λ _. tt)

-- what a run that used u bytes may give
unfoldable pub Given : ℕ → ParserResult → Type 0
Given u IncompleteFrame = Unit
Given u InvalidFrame = Unit
Given u (ValidCommand i n) = Unit
Given u (ValidFrame t k v g r n) = (10 ≤ u) × ((n ≤ u) × ((k < 8) × ((v < 32) × (g < 256))))

goes_on_lem : (w : ℕ) (c : Core) (r : ParserResult) → goes_on r ≡ true → Costs w c r → gone c ≤ w + 1
unfolding Costs
goes_on_lem w c IncompleteFrame e h = h
goes_on_lem w c InvalidFrame e h = absurd (false≢true e)
goes_on_lem w c (ValidCommand i n) e h = absurd (false≢true e)
goes_on_lem w c (ValidFrame t k v g r n) e h = absurd (false≢true e)

ends : (w u : ℕ) (c : Core) (r : ParserResult) → w ≤ u → Costs w c r → Given (u + 1) r
unfolding Costs Given
ends w u c IncompleteFrame l h = tt
ends w u c InvalidFrame l h = tt
ends w u c (ValidCommand i n) l h = tt
ends w u c (ValidFrame t k v g r n) l h = (omega arith, (omega arith, h.1.1))

run_gives : (bs : List ℕ) (k : ℕ) (c : Core) → gone c ≤ k → Given (core_run_from k bs c).used (core_run_from k bs c).result
unfolding core_run_from Given
run_gives [] k c h = tt
run_gives (b ∷ bs) k c h =
    let r = (core_step_of c b).result in
    let core = (core_step_of c b).core in
    either (goes_on r)
    (λ yes'. rw yes' (run_gives bs (k + 1) core (omega (arith, goes_on_lem (gone c) core r yes' (step_costs c b)))))
    (λ no'. rw no' (ends (gone c) k core r h (step_costs c b)))

-- from a fresh parser
pub frame_given : (bs : List ℕ) → Given (core_run_from 0 bs fresh_core).used (core_run_from 0 bs fresh_core).result
frame_given bs = run_gives bs 0 fresh_core (omega arith)
