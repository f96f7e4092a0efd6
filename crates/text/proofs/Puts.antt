-- Laws on texts put into a buffer: one text after another is the joined text, a full buffer takes nothing, and a text that fits stands
-- there whole. Assumes nothing.
use Prim.Native.Nat.{ℕ, suc, ◌+◌, ◌/◌, ◌%◌, ◌≤◌, ◌<◌, min}
use lib.Dec.{ltb}
use lib.ListN.{length, get_or, set, take, drop, length-set}
use lib.Seq.{drop-cons, sets, sets-eq}
use mathlib.Core.List.{List, [], ◌∷◌, ◌++◌, append-nil}
use mathlib.Core.Path.{◌≡◌, refl, sym, ap, ◌∙◌}
use native.Mathlib.Numerals.{add-one}
use native.Mathlib.Omega.{arith}
use borrow.Author.Tests.{lt-ltb, le-ltb, ltb-true, ltb-false}
use Rattle.choice.proofs.Choice.{by_choice, either}
use Rattle.text.specs.Put.{Filled, filled, with_byte, with_text, Put, Puts}
use Rattle.text.specs.declared.Out.{Out}
use Rattle.text.specs.Texts.{capital, hex_text}

pub put_append : (f : Filled) (a b : List ℕ) → with_text f (a ++ b) ≡ with_text (with_text f a) b
unfolding with_text
put_append f [] b = refl
put_append f (x ∷ a) b = put_append (with_byte f x) a b

-- a byte where there is room
pub byte_in : (out : List ℕ) (at b : ℕ) → at < length out → Put (b ∷ []) out at (set out at b) (at + 1)
unfolding with_text
byte_in out at b h = record { puts = simp (lt-ltb _ _ h) }

-- a text where there is none
pub text_out : (out : List ℕ) (at : ℕ) → length out ≤ at → (text : List ℕ) → Put text out at out at
unfolding with_text
text_out out at h [] = record { puts = refl }
text_out out at h (b ∷ bs) = record { puts = simp (le-ltb _ _ h) (text_out out at h bs).puts }

-- no text
pub nothing : (o : Out) → Puts [] o o
unfolding with_text
nothing o = record { put = record { puts = refl }; same = refl }

-- one text after another
pub joined : {a b : List ℕ} {o₀ o₁ o₂ : Out} → Puts a o₀ o₁ → Puts b o₁ o₂ → Puts (a ++ b) o₀ o₂
joined {a} {b} p q =
    record {
      put = record { puts = q.put.puts ∙ ap (λ (f : Filled). with_text f b) p.put.puts ∙ sym (put_append _ a b) };
      same = q.same ∙ p.same;
    }

-- the same text by another name
pub renamed : {a b : List ℕ} {o₀ o₁ : Out} → a ≡ b → Puts a o₀ o₁ → Puts b o₀ o₁
renamed e p = record { put = record { puts = p.put.puts ∙ ap (with_text _) e }; same = p.same }

-- a part of a text is still to be put, and with it the text is whole: what holds at each turn of a loop that puts a text
pub record Left (text : List ℕ) (before : Out) (rest : List ℕ) (out : Out) : Type 0 where
  pub whole : with_text (filled out.bytes.now out.at) rest ≡ with_text (filled before.bytes.now before.at) text
  pub same : out.bytes.ghost_name ≡ before.bytes.ghost_name

pub all_left : (text : List ℕ) (out : Out) → Left text out text out
all_left text out = record { whole = refl; same = refl }

pub less_left : {text rest a rest' : List ℕ} {before out out' : Out} → Left text before rest out → rest ≡ a ++ rest' → Puts a out out'
    → Left text before rest' out'
less_left {rest' = rest'} l e p =
    record {
      whole = ap (λ (f : Filled). with_text f rest') p.put.puts ∙ sym (put_append _ _ rest') ∙ ap (with_text _) (sym e) ∙ l.whole;
      same = p.same ∙ l.same;
    }

pub none_left : {text rest : List ℕ} {before out : Out} → Left text before rest out → rest ≡ [] → Puts text before out
unfolding with_text
none_left l e = record { put = record { puts = ap (with_text _) (sym e) ∙ l.whole }; same = l.same }

-- what is left, put at once
pub rest_put : {text rest a : List ℕ} {before out out' : Out} → Left text before rest out → rest ≡ a → Puts a out out' → Puts text before out'
rest_put l e p = none_left (less_left l (e ∙ sym (append-nil _)) p) refl

-- the bytes from a place on are the byte there and those after it
pub next_byte : (l : List ℕ) (i : ℕ) → i < length l → drop i l ≡ (get_or l i 0 ∷ []) ++ drop (i + 1) l
next_byte l i h = rw (add-one i) (drop-cons l i 0 h)

-- the digits of the bytes from a place on are those of the byte there and those after it
pub next_hex : (l : List ℕ) (i : ℕ) → i < length l
    → hex_text (drop i l) ≡ (capital (get_or l i 0 / 16) ∷ []) ++ (capital (get_or l i 0 % 16) ∷ []) ++ hex_text (drop (i + 1) l)
unfolding hex_text
next_hex l i h = ap hex_text (next_byte l i h)

-- a text that fits stands whole where it was put, with all else as it was
stored : (text out : List ℕ) (at : ℕ) → at + length text ≤ length out → with_text (filled out at) text ≡ filled (sets out at text) (at + length text)
unfolding with_text
stored [] out at h = ap (filled out) (omega arith)
stored (b ∷ bs) out at h =
    simp (lt-ltb at (length out) (omega arith), add-one at)
    (stored bs (set out at b) (suc at) (rw length-set (omega arith)) ∙ ap (filled (sets out at (b ∷ bs))) (omega arith))

pub whole : {text before after : List ℕ} {at r : ℕ} → Put text before at after r → at + length text ≤ length before
    → (after ≡ take at before ++ text ++ drop (at + length text) before) × (r ≡ at + length text)
whole {text} {before} {at = at} p h = (
  ap (λ (f : Filled). f.bytes) (p.puts ∙ stored text before at h) ∙ sets-eq text before at h,
  ap (λ (f : Filled). f.place) (p.puts ∙ stored text before at h),
)

-- the place stays inside the buffer
byte_inside : (f : Filled) (b : ℕ) → f.place ≤ length f.bytes → (with_byte f b).place ≤ length (with_byte f b).bytes
byte_inside f b h =
    by_choice (λ (g : Filled). g.place ≤ length g.bytes) (ltb f.place (length f.bytes))
    {a = filled (set f.bytes f.place b) (f.place + 1)} {b = f}
    (λ e. rw (length-set f.bytes f.place b) (omega (arith, ltb-true f.place (length f.bytes) e)))
    (λ e. h)

text_inside : (text : List ℕ) (f : Filled) → f.place ≤ length f.bytes → (with_text f text).place ≤ length (with_text f text).bytes
unfolding with_text
text_inside [] f h = h
text_inside (b ∷ bs) f h = text_inside bs (with_byte f b) (byte_inside f b h)

pub inside : {text before after : List ℕ} {at r : ℕ} → Put text before at after r → at ≤ length before → r ≤ length after
inside {text} {before} {at = at} p h = rw (← p.puts) at (text_inside text (filled before at) h)

-- the place after a text, or the buffer's end
place_by : (text : List ℕ) (f : Filled) → f.place ≤ length f.bytes → (with_text f text).place ≡ min (f.place + length text) (length f.bytes)
unfolding with_text
place_by [] f h = omega arith
place_by (b ∷ bs) f h =
    either (ltb f.place (length f.bytes))
    (λ e.
    let room : f.place < length f.bytes = ltb-true f.place (length f.bytes) e in
    let put : with_byte f b ≡ filled (set f.bytes f.place b) (f.place + 1) = simp e in
    let same : length (set f.bytes f.place b) ≡ length f.bytes = length-set f.bytes f.place b in
    ap (λ (g : Filled). (with_text g bs).place) put
    ∙ place_by bs (filled (set f.bytes f.place b) (f.place + 1)) (omega arith)
    ∙ omega arith)
    (λ e.
    let full : length f.bytes ≤ f.place = ltb-false f.place (length f.bytes) e in
    let put : with_byte f b ≡ f = simp e in
    ap (λ (g : Filled). (with_text g bs).place) put ∙ place_by bs f h ∙ omega arith)

-- a buffer that is not full in the end holds the whole text
pub unfilled : {text before after : List ℕ} {at r : ℕ} → Put text before at after r → at ≤ length before → r < length before
    → (after ≡ take at before ++ text ++ drop (at + length text) before) × (r ≡ at + length text)
unfilled {text} {before} {at = at} {r} p h l =
    let e : r ≡ min (at + length text) (length before) = ap (λ (f : Filled). f.place) p.puts ∙ place_by text (filled before at) h in
    whole p (omega arith)
