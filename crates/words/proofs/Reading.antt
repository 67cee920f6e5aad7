-- A word whose numbers keep to their bits is read from its number.
use Rattle.std.proofs.Common.{◌≡◌, ℕ, ◌+◌, ◌*◌, ◌/◌, ◌%◌, ◌<◌, Some, refl, arith}
use Rattle.words.specs.Words.{Fits, cause_number, cause_of, direction_of, incoming, number_of, timer_number, timer_of, word_of}
use Rattle.words.specs.declared.kinds.Direction.{Direction}
use Rattle.words.specs.declared.kinds.Direction.TheVariants.{Outgoing, Incoming}
use Rattle.words.specs.declared.kinds.EndCause.{EndCause}
use Rattle.words.specs.declared.kinds.EndCause.TheVariants.{ReleaseReceived, ReleaseComplete, Reset, HardwareBlock, DualSeizure}
use Rattle.words.specs.declared.kinds.Timer.{Timer}
use Rattle.words.specs.declared.kinds.Timer.TheVariants.{T1, T5, T12, T13, T14, T15, T16, T17, T18, T19, T20, T21, T22, T23}
use Rattle.words.specs.declared.kinds.Word.{Word}
use Rattle.words.specs.declared.kinds.Word.TheVariants.{Send, Begun, Ended, Alert}

-- the three parts of a number
part_kind : (kind field low : ℕ) → field < 65536 → (kind * 0x1000_0000 + field * 4096 + low % 4096) / 0x1000_0000 ≡ kind
part_kind kind field low f = omega arith

part_field : (kind field low : ℕ) → field < 65536 → (kind * 0x1000_0000 + field * 4096 + low % 4096) / 4096 % 65536 ≡ field
part_field kind field low f = omega arith

part_cic : (kind field low : ℕ) → low < 4096 → (kind * 0x1000_0000 + field * 4096 + low % 4096) % 4096 ≡ low
part_cic kind field low l = omega arith

send_back : (place len : ℕ) → place < 4096 → len < 65536 → word_of (number_of (Send place len)) ≡ Some (Send place len)
send_back place len p l = rw (kind, at, size) refl
  where
    kind : (0x1000_0000 + place % 4096 * 65536 + len) / 0x1000_0000 ≡ 1
    kind = omega arith

    at : (0x1000_0000 + place % 4096 * 65536 + len) / 65536 % 4096 ≡ place
    at = omega arith

    size : (0x1000_0000 + place % 4096 * 65536 + len) % 65536 ≡ len
    size = omega arith

incoming_small : (way : Direction) → incoming way < 65536
incoming_small Outgoing = omega arith
incoming_small Incoming = omega arith

incoming_back : (way : Direction) → direction_of (incoming way) ≡ Some way
incoming_back Outgoing = refl
incoming_back Incoming = refl

cause_small : (cause : EndCause) → cause_number cause < 65536
cause_small ReleaseReceived = omega arith
cause_small ReleaseComplete = omega arith
cause_small Reset = omega arith
cause_small HardwareBlock = omega arith
cause_small DualSeizure = omega arith

cause_back : (cause : EndCause) → cause_of (cause_number cause) ≡ Some cause
cause_back ReleaseReceived = refl
cause_back ReleaseComplete = refl
cause_back Reset = refl
cause_back HardwareBlock = refl
cause_back DualSeizure = refl

timer_small : (timer : Timer) → timer_number timer < 65536
timer_small T1 = omega arith
timer_small T5 = omega arith
timer_small T12 = omega arith
timer_small T13 = omega arith
timer_small T14 = omega arith
timer_small T15 = omega arith
timer_small T16 = omega arith
timer_small T17 = omega arith
timer_small T18 = omega arith
timer_small T19 = omega arith
timer_small T20 = omega arith
timer_small T21 = omega arith
timer_small T22 = omega arith
timer_small T23 = omega arith

timer_back : (timer : Timer) → timer_of (timer_number timer) ≡ Some timer
timer_back T1 = refl
timer_back T5 = refl
timer_back T12 = refl
timer_back T13 = refl
timer_back T14 = refl
timer_back T15 = refl
timer_back T16 = refl
timer_back T17 = refl
timer_back T18 = refl
timer_back T19 = refl
timer_back T20 = refl
timer_back T21 = refl
timer_back T22 = refl
timer_back T23 = refl

pub read_back : (w : Word) → Fits w → word_of (number_of w) ≡ Some w
read_back (Send place len) f = send_back place len f.0 f.1
read_back (Begun way cic) f =
    let n = incoming way in
    rw (part_kind 2 n cic.0 (incoming_small way), part_field 2 n cic.0 (incoming_small way), part_cic 2 n cic.0 f, incoming_back way) refl
read_back (Ended cause cic) f =
    let n = cause_number cause in
    rw (part_kind 3 n cic.0 (cause_small cause), part_field 3 n cic.0 (cause_small cause), part_cic 3 n cic.0 f, cause_back cause) refl
read_back (Alert timer cic) f =
    let n = timer_number timer in
    rw (part_kind 4 n cic.0 (timer_small timer), part_field 4 n cic.0 (timer_small timer), part_cic 4 n cic.0 f, timer_back timer) refl
