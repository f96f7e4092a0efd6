-- The halvings: each makes the span at least one byte shorter, so counting the steps by more than the span's bytes changes nothing; and a span of 65,536 bytes, doubled k times, takes at most k. Assumes nothing.
use Prim.Native.Nat.{ℕ, zero, suc, ◌+◌, ◌-◌, ◌/◌, ◌≤◌, ◌<◌}
use borrow.Author.Tests.{lt-ltb, le-ltb}
use lib.IntN.{ℤ}
use lib.Signed.{lt_z}
use mathlib.Core.Bool.{Bool, true, false, cond}
use mathlib.Core.Path.{◌≡◌, refl, sym, ap, ◌∙◌}
use native.Mathlib.Decide.{dec_lt}
use native.Mathlib.Omega.{arith}
use Rattle.layout.specs.Layout.{trace_limit}
use Rattle.span.proofs.Steady.{steady}
use Rattle.span.proofs.Meets.{Meets, ends_after}
use Rattle.choice.proofs.Choice.{left_true}
use Rattle.span.specs.Met.{MetTold}
use Rattle.seek.specs.Seek.{wide, middle, earlier, next_lo, next_hi, Bracket, halved_none, counted, narrowed}

-- an earlier record is a record
pub earlier_found : (target : ℤ) (m : MetTold) → earlier target m ≡ true → m.is_found ≡ true
earlier_found target m q = left_true m.is_found (lt_z m.millis target) q

-- 65,536 doubled k times
doubled : ℕ → ℕ
doubled zero = 65536
doubled (suc k) = doubled k + doubled k

-- what was counted before, added
abbrev pub plus : ℕ → Bracket → Bracket
plus h b = record { lo = b.lo; hi = b.hi; halvings = h + b.halvings }

plus_counted : (h : ℕ) (b : Bracket) → plus h (counted b) ≡ plus (h + 1) b
plus_counted h b =
    let same : h + (b.halvings + 1) ≡ h + 1 + b.halvings = omega arith in
    ap (λ (k : ℕ). record { lo = b.lo; hi = b.hi; halvings = k }) same

pub none_yet : (b : Bracket) → b ≡ plus 0 b
none_yet b =
    let same : b.halvings ≡ 0 + b.halvings = omega arith in
    ap (λ (k : ℕ). record { lo = b.lo; hi = b.hi; halvings = k }) same

module _ (met : ℕ → MetTold) (n : ℕ) (ms : Meets met n) (target : ℤ) where
  abbrev lo' : ℕ → ℕ → ℕ
  lo' lo hi = next_lo target lo (met (middle lo hi))

  abbrev hi' : ℕ → ℕ → ℕ
  hi' lo hi = next_hi target (middle lo hi) hi (met (middle lo hi))

  halves_by :
      (lo hi end : ℕ) (b : Bool) → (b ≡ true → middle lo hi < end) → 65536 < hi - lo
      → cond b hi (middle lo hi) - cond b end lo ≤ (hi - lo) / 2
  halves_by lo hi end true after h = omega (arith, after refl)
  halves_by lo hi end false after h = omega arith

  -- a halving leaves at most half
  pub halves : (lo hi : ℕ) → 65536 < hi - lo → hi' lo hi - lo' lo hi ≤ (hi - lo) / 2
  halves lo hi h =
      halves_by lo hi (met (middle lo hi)).end (earlier target (met (middle lo hi)))
      (λ e. ends_after met n ms (middle lo hi) (earlier_found target (met (middle lo hi)) e)) h

  -- lo grows, so the Rust's way out for an end that is not above lo is never taken
  pub lo_grows : (lo hi : ℕ) → earlier target (met (middle lo hi)) ≡ true → lo < (met (middle lo hi)).end
  lo_grows lo hi e = omega (arith, ends_after met n ms (middle lo hi) (earlier_found target (met (middle lo hi)) e))

  -- hi stays within the trace
  inside_by : (lo hi end : ℕ) (b : Bool) → hi ≤ n → 65536 < hi - lo → cond b hi (middle lo hi) ≤ n
  inside_by lo hi end true within h = within
  inside_by lo hi end false within h = omega arith

  pub stays_inside : (lo hi : ℕ) → hi ≤ n → 65536 < hi - lo → hi' lo hi ≤ n
  stays_inside lo hi within h = inside_by lo hi (met (middle lo hi)).end (earlier target (met (middle lo hi))) within h

  abbrev narrow : ℕ → ℕ → ℕ → Bracket
  narrow k lo hi = narrowed met target k lo hi

  -- where the span is short, no halving
  pub short : (k lo hi : ℕ) → hi - lo ≤ 65536 → narrow k lo hi ≡ halved_none lo hi
  unfolding narrowed
  short zero lo hi h = refl
  short (suc k) lo hi h = rw (le-ltb 65536 (hi - lo) h)

  -- one halving, and the rest
  pub step : (k lo hi : ℕ) → 65536 < hi - lo → narrow (suc k) lo hi ≡ counted (narrow k (lo' lo hi) (hi' lo hi))
  unfolding narrowed
  step k lo hi h = rw (lt-ltb 65536 (hi - lo) h)

  same_by : (k lo hi : ℕ) → hi - lo ≤ k → Dec (65536 < hi - lo) → narrow k lo hi ≡ narrow (suc k) lo hi
  same_by zero lo hi enough d = short zero lo hi (omega arith) ∙ sym (short (suc zero) lo hi (omega arith))
  same_by (suc k) lo hi enough (yes h) =
      step k lo hi h
      ∙ ap counted (same_by k (lo' lo hi) (hi' lo hi) (omega (arith, halves lo hi h)) (dec_lt 65536 (hi' lo hi - lo' lo hi)))
      ∙ sym (step (suc k) lo hi h)
  same_by (suc k) lo hi enough (no h) = short (suc k) lo hi (omega arith) ∙ sym (short (suc (suc k)) lo hi (omega arith))

  -- counting further changes nothing
  pub more_steps : (lo hi k j : ℕ) → hi - lo ≤ k → k ≤ j → narrow k lo hi ≡ narrow j lo hi
  more_steps lo hi = steady (λ (k : ℕ). narrow k lo hi) (hi - lo) (λ k enough. same_by k lo hi enough (dec_lt 65536 (hi - lo)))

  -- one halving, counted by as many steps
  pub one_halving : (k lo hi : ℕ) → hi - lo ≤ k → 65536 < hi - lo → narrow k lo hi ≡ counted (narrow k (lo' lo hi) (hi' lo hi))
  one_halving zero lo hi enough h = absurd (omega arith)
  one_halving (suc k) lo hi enough h =
      step k lo hi h
      ∙ ap counted (same_by k (lo' lo hi) (hi' lo hi) (omega (arith, halves lo hi h)) (dec_lt 65536 (hi' lo hi - lo' lo hi)))

  inside_lo : (lo end : ℕ) (b : Bool) → lo ≤ n → (b ≡ true → end ≤ n) → cond b end lo ≤ n
  inside_lo lo end true within e = e refl
  inside_lo lo end false within e = within

  -- in the code's numbers: h halvings made, and what is left
  module _ (k first len lo hi h : ℕ) (so_far : narrow k first len ≡ plus h (narrow k lo hi)) where
    pub again :
        hi - lo ≤ k → 65536 < hi - lo → lo ≤ n → hi ≤ n → (m : MetTold) → m ≡ met (middle lo hi) → (a b : ℕ) → a ≡ next_lo target lo m → b ≡ next_hi target (middle lo hi) hi m
        → (a ≤ n) × (b ≤ n) × (b - a ≤ (hi - lo) / 2) × (narrow k first len ≡ plus (h + 1) (narrow k a b))
    again enough wide lo_in hi_in m m_is a b a_is b_is =
        let a_next : a ≡ lo' lo hi = rw m_is at a_is in
        let b_next : b ≡ hi' lo hi = rw m_is at b_is in
        rw (a_next, b_next) (
          inside_lo lo (met (middle lo hi)).end (earlier target (met (middle lo hi))) lo_in (λ e. ms.inside (middle lo hi) (earlier_found target (met (middle lo hi)) e)),
          stays_inside lo hi hi_in wide,
          halves lo hi wide,
          so_far ∙ ap (plus h) (one_halving k lo hi enough wide) ∙ plus_counted h (narrow k (lo' lo hi) (hi' lo hi)),
        )

    pub narrowed_enough : hi - lo ≤ 65536 → (lo ≡ (narrow k first len).lo) × (h ≡ (narrow k first len).halvings)
    narrowed_enough few =
        let all : narrow k first len ≡ plus h (halved_none lo hi) = so_far ∙ ap (plus h) (short k lo hi few) in
        (sym (ap (λ (b : Bracket). b.lo) all), omega (arith, ap (λ (b : Bracket). b.halvings) all))

  few_by : (j k lo hi : ℕ) → hi - lo ≤ doubled j → Dec (65536 < hi - lo) → (narrow k lo hi).halvings ≤ j
  unfolding narrowed doubled
  few_by j zero lo hi h d = omega arith
  few_by j (suc k) lo hi h (no l) = omega (arith, ap (λ (b : Bracket). b.halvings) (short (suc k) lo hi (omega arith)))
  few_by zero (suc k) lo hi h (yes l) = absurd (omega arith)
  few_by (suc j) (suc k) lo hi h (yes l) =
      let fewer : (narrow k (lo' lo hi) (hi' lo hi)).halvings ≤ j = few_by j k (lo' lo hi) (hi' lo hi) (omega (arith, halves lo hi l)) (dec_lt 65536 (hi' lo hi - lo' lo hi)) in
      omega (arith, ap (λ (b : Bracket). b.halvings) (step k lo hi l))

  -- 14 halvings narrow a trace within the limit
  pub at_most_14 : n ≤ trace_limit → (k lo hi : ℕ) → hi ≤ n → (narrow k lo hi).halvings ≤ 14
  unfolding doubled
  at_most_14 fits k lo hi within = few_by 14 k lo hi (omega arith) (dec_lt 65536 (hi - lo))
