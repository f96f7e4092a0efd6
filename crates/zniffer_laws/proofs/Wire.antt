-- 01's sentences on the wire, over the parser's definition: from fresh, a command's bytes are that command, a frame's bytes that frame with every field, and a frame start with length 0 is a
-- command with id 0; each with every byte used and the parser fresh after it. Assumes nothing.
use Prim.Native.Nat.{ℕ, ◌+◌, ◌-◌, ◌*◌, ◌/◌, ◌%◌, ◌≤◌, ◌<◌, min}
use lib.ListN.{length, get_or, take, drop}
use lib.Seq.{sets, take_all}
use mathlib.Core.Bool.{true, false}
use mathlib.Core.List.{List, [], ◌∷◌, ◌++◌}
use mathlib.Core.Path.{◌≡◌, refl, sym, ap, ◌∙◌}
use native.Mathlib.Omega.{arith}
use Rattle.choice.proofs.Laid.{laid_first}
use Rattle.zniffer_numbers.specs.declared.ParserResult.{ParserResult}
use Rattle.zniffer_numbers.specs.declared.ParserResult.TheVariants.{ValidCommand, ValidFrame}
use Rattle.zniffer_numbers.specs.Numbers.{core, fresh_core}
use Rattle.zniffer_tests.specs.Tests.{command_ok, type_ok, region_ok, reachable_of}
use Rattle.zniffer_starts.specs.Header.{head_of}
use Rattle.zniffer_starts.proofs.HeadLaws.{a_command, a_frame}
use borrow.Author.Tests.{ne_eqb}
use Rattle.zniffer_core.specs.Run.{core_run_from}
use Rattle.zniffer_core.proofs.Whole.{whole_at_start, two_run, nine_run, no_bytes, headed_passes}
use Rattle.zniffer.specs.Parse.{zeros, fresh_parser, run_from}
use Rattle.zniffer.specs.Held.{held_by}
use Rattle.zniffer.proofs.Filled.{ran_of, piece, run_parts}
use Rattle.zniffer_laws.specs.Wire.{command_bytes, frame_bytes, given_back}
use Rattle.zniffer_laws.proofs.ReachParser.{zeros_long}

-- the payload that a run leaves whose last bytes are all of it
piece_whole : (s bytes : List ℕ) (k : ℕ) → drop k s ≡ bytes → length s ≡ k + length bytes → length bytes ≤ 255 → piece s zeros (length bytes) (length s) ≡ bytes ++ drop (length bytes) zeros
piece_whole s bytes k is long few =
    let n = length bytes in
    let m : min n (length s) ≡ n = omega (arith, long) in
    let a : n - min n (length s) ≡ 0 = omega (arith, m) in
    let b : length s - min n (length s) ≡ k = omega (arith, m, long) in
    (λ j. sets zeros (a j) (take (m j) (drop (b j) s))) ∙ ap (λ l. sets zeros 0 (take n l)) is ∙ ap (sets zeros 0) (take_all n bytes (omega arith)) ∙ laid_first bytes zeros (omega (arith, few, zeros_long))

-- a run of the numbers that uses every byte and hands out a payload, with the payload
module _ (s bytes : List ℕ) (k : ℕ) (octets : (j : ℕ) → get_or s j 0 < 256) (is : drop k s ≡ bytes) (long : length s ≡ k + length bytes) (few : length bytes ≤ 255) where
  given : (r : ParserResult) → held_by fresh_core r ≡ length bytes
      → ((l : List ℕ) (u : ℕ) → ran_of (record { core = fresh_core; result = r; used = u }) l ≡ record { parser = fresh_parser; out = record { answer = record { result = r; payload = l }; used = u } })
      → core_run_from 0 s fresh_core ≡ record { core = fresh_core; result = r; used = length s } → run_from 0 s fresh_parser ≡ given_back s r bytes
  given r h shape e =
      run_parts s zeros octets fresh_core ∙ rw (e, h) (shape _ (length s) ∙ ap (λ l. record { parser = fresh_parser; out = record { answer = record { result = r; payload = l }; used = length s } }) (piece_whole s bytes k is long few))

-- "Command ids are 1, 2, 3, 4, 5, 14, 19, then length, payload"
module _ (i : ℕ) (id_ok : command_ok i ≡ true) where
  no_payload : ((j : ℕ) → get_or (command_bytes i []) j 0 < 256) → core_run_from 0 (command_bytes i []) fresh_core ≡ record { core = fresh_core; result = ValidCommand i 0; used = 3 }
  no_payload octets =
      let s = command_bytes i [] in let ok : reachable_of (core 2 i 0 0 0 0 false 0 0 0 0) ≡ true = rw id_ok in
      two_run s octets (omega arith) refl id_ok ∙ no_bytes (core 2 i 0 0 0 0 false 0 0 0 0) ok refl s 2 (omega arith) refl

  some_payload : (b : ℕ) (bs : List ℕ) → ((j : ℕ) → get_or (command_bytes i (b ∷ bs)) j 0 < 256)
      → core_run_from 0 (command_bytes i (b ∷ bs)) fresh_core ≡ record { core = fresh_core; result = ValidCommand i (length (b ∷ bs)); used = length (command_bytes i (b ∷ bs)) }
  some_payload b bs octets =
      let s = command_bytes i (b ∷ bs) in let n = length (b ∷ bs) in
      let head : head_of s ≡ record { core = core 3 i n 0 0 0 false 0 0 0 0; size = 3 } = sym (a_command s (omega arith) refl) ∙ rw (id_ok, ne_eqb n 0 (λ z. omega (arith, z))) in
      let all = whole_at_start s octets (λ z. omega (arith, sym (ap (λ h. h.size) head) ∙ z)) n (ap (λ h. h.core.length) (sym head)) (omega (arith, ap (λ h. h.size) head)) in
      let end : 3 + n ≡ length s = omega arith in
      rw head at all ∙ (λ j. record { core = fresh_core; result = ValidCommand i n; used = end j })

  core_command : (bytes : List ℕ) → ((j : ℕ) → get_or (command_bytes i bytes) j 0 < 256)
      → core_run_from 0 (command_bytes i bytes) fresh_core ≡ record { core = fresh_core; result = ValidCommand i (length bytes); used = length (command_bytes i bytes) }
  core_command [] octets = no_payload octets
  core_command (b ∷ bs) octets = some_payload b bs octets

  pub command_given_back : (bytes : List ℕ) → ((j : ℕ) → get_or (command_bytes i bytes) j 0 < 256) → run_from 0 (command_bytes i bytes) fresh_parser ≡ given_back (command_bytes i bytes) (ValidCommand i (length bytes)) bytes
  command_given_back bytes octets = given (command_bytes i bytes) bytes 3 octets refl (omega arith) (omega (arith, octets 2)) (ValidCommand i (length bytes)) refl (λ l u. refl) (core_command bytes octets)

-- "A frame is type 1, 2, 4 or 5; timestamp, high byte first; one byte of channel (top three bits) and speed (low five); region; RSSI; 0x21; 0x03; length; payload"
module _ (t h l k g r : ℕ) (type_ok_lem : type_ok t ≡ true) (region_ok_lem : region_ok g ≡ true) where
  pub frame_given_back : (b : ℕ) (bs : List ℕ) → ((j : ℕ) → get_or (frame_bytes t h l k g r (b ∷ bs)) j 0 < 256)
      → run_from 0 (frame_bytes t h l k g r (b ∷ bs)) fresh_parser ≡ given_back (frame_bytes t h l k g r (b ∷ bs)) (ValidFrame (h * 256 + l) (k / 32) (k % 32) g r (length (b ∷ bs))) (b ∷ bs)
  frame_given_back b bs octets =
      let s = frame_bytes t h l k g r (b ∷ bs) in let n = length (b ∷ bs) in let w = h * 256 + l in
      let head : head_of s ≡ record { core = core 3 0 n 0 t w false (k / 32) (k % 32) g r; size = 10 } = sym (a_frame s (omega arith) refl) ∙ rw (type_ok_lem, region_ok_lem, ne_eqb n 0 (λ z. omega (arith, z))) in
      let all = whole_at_start s octets (λ z. omega (arith, sym (ap (λ h. h.size) head) ∙ z)) n (ap (λ h. h.core.length) (sym head)) (omega (arith, ap (λ h. h.size) head)) in
      let end : 10 + n ≡ length s = omega arith in
      given s (b ∷ bs) 10 octets refl (omega arith) (omega (arith, octets 9)) (ValidFrame w (k / 32) (k % 32) g r n) refl (λ l u. refl)
      (rw type_ok_lem at (rw head at all) ∙ (λ j. record { core = fresh_core; result = ValidFrame w (k / 32) (k % 32) g r n; used = end j }))

  -- "Length 0 gives a command, with id 0 after a frame start"
  pub nothing_given_back : ((j : ℕ) → get_or (frame_bytes t h l k g r []) j 0 < 256) → run_from 0 (frame_bytes t h l k g r []) fresh_parser ≡ given_back (frame_bytes t h l k g r []) (ValidCommand 0 0) []
  nothing_given_back octets =
      let s = frame_bytes t h l k g r [] in
      given s [] 10 octets refl refl (omega arith) (ValidCommand 0 0) refl (λ l u. refl) (nine_run s octets (omega arith) refl type_ok_lem region_ok_lem refl refl ∙ no_bytes (core 2 0 0 0 t (h * 256 + l) false (k / 32) (k % 32) g r) (headed_passes t (h * 256 + l) k g r (octets 4) type_ok_lem region_ok_lem) refl s 9 (omega arith) refl)
