-- What a valid record's header, as the record test told it, says of the record at its place. Assumes nothing.
use Prim.Native.Nat.{ℕ, ◌+◌, ◌-◌, ◌≤◌}
use lib.IntN.{pos, nat_abs}
use lib.ListN.{length, take, drop, length-drop}
use lib.Seq.{length-take-le}
use mathlib.Core.List.{List}
use Rattle.std.specs.Prelude.{Some, Ok}
use mathlib.Core.Path.{◌≡◌, refl, sym, ap}
use native.Mathlib.Omega.{arith}
use Rattle.ticks.specs.Ticks.{unix_millis}
use Rattle.layout.specs.Layout.{trace_limit}
use Rattle.layout.specs.Fields.{ticks_at, length_at, outgoing_at, kind_at, next_place}
use Rattle.record.proofs.Answers.{is_one, next_one}
use Rattle.record.proofs.Valid.{valid_inside}
use Rattle.record.specs.Record.{plausible, next_at, RecordTold, record_at, told_record}
use Rattle.record.specs.declared.RecordHeader.{RecordHeader}
use Rattle.steps.specs.Step.{latest}
use Rattle.steps.proofs.Tests.{told_fits, time_most}
use Rattle.rows.specs.Rows.{payload_at, frames_at}
use Rattle.rows.specs.Frames.{frames_from}

pub record Header (kinds s : List ℕ) (at : ℕ) (h : RecordHeader) : Type 0 where
  pub size : h.payload_len ≡ length_at s at
  pub kind : h.kind ≡ kind_at kinds s at
  pub outgoing : h.is_outcome ≡ outgoing_at s at
  pub millis : pos h.unix_millis ≡ unix_millis (ticks_at s at)
  pub next : next_at plausible kinds s at ≡ Some h.next_offset
  pub fits : length s ≤ trace_limit
  pub timed : h.unix_millis ≤ latest
  pub next_is : h.next_offset ≡ at + 14 + h.payload_len
  pub inside : at + 14 + h.payload_len ≤ length s

pub header : (kinds s : List ℕ) (at : ℕ) (h : RecordHeader) → told_record (Ok (Some h)) ≡ record_at plausible kinds s at → Header kinds s at h
header kinds s at h e =
    let t = told_record (Ok (Some h)) in
    let one = is_one plausible kinds s at t e refl in
    let size_is : h.payload_len ≡ length_at s at = ap (λ (x : RecordTold). x.size) one.1 in
    let next_is' : h.next_offset ≡ next_place s at = ap (λ (x : RecordTold). x.next) one.1 in
    record {
      size = size_is;
      kind = ap (λ (x : RecordTold). x.kind) one.1;
      outgoing = ap (λ (x : RecordTold). x.outgoing) one.1;
      millis = ap (λ (x : RecordTold). x.millis) one.1;
      next = next_one plausible kinds s at t e refl;
      fits = told_fits plausible kinds s at t e refl;
      timed =
          rw (sym (ap (λ (x : RecordTold). nat_abs x.millis) one.1))
          at (time_most plausible kinds s (omega arith) (omega arith) at h.next_offset (next_one plausible kinds s at t e refl));
      next_is = omega arith;
      inside = omega (arith, valid_inside plausible kinds s at one.0);
    }

-- its payload, as code cuts it out
pub cut : (kinds s : List ℕ) (at : ℕ) (h : RecordHeader) → Header kinds s at h → take (at + 13 + h.payload_len - (at + 13)) (drop (at + 13) s) ≡ payload_at s at
cut kinds s at h x = let size : at + 13 + h.payload_len - (at + 13) ≡ length_at s at = omega (arith, x.size) in rw size

-- and the frames in it
pub frames_of : (kinds s : List ℕ) (at : ℕ) (h : RecordHeader) → Header kinds s at h → (p : List ℕ) → p ≡ payload_at s at → (from : ℕ)
    → frames_from h.kind h.is_outcome p from ≡ frames_at kinds s at from
frames_of kinds s at h x p e from = rw e (rw x.kind (rw x.outgoing))

pub payload_length : (kinds s : List ℕ) (at : ℕ) (h : RecordHeader) → Header kinds s at h → length (payload_at s at) ≡ h.payload_len
payload_length kinds s at h x = rw (sym x.size) (length-take-le h.payload_len (drop (at + 13) s) (simp length-drop (omega (arith, x.inside))))
