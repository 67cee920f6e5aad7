-- The words told: 32 bits, the top four the kind, unnamed bits 0.
use Rattle.std.specs.Prelude.{ℕ, ◌+◌, ◌*◌, ◌/◌, ◌%◌, ◌<◌, cond, Some, None, Option, option_map, ◌==◌}
use Rattle.status.specs.declared.cic.Cic.{Cic}
use Rattle.words.specs.declared.kinds.Direction.{Direction}
use Rattle.words.specs.declared.kinds.Direction.TheVariants.{Outgoing, Incoming}
use Rattle.words.specs.declared.kinds.EndCause.{EndCause}
use Rattle.words.specs.declared.kinds.EndCause.TheVariants.{ReleaseReceived, ReleaseComplete, Reset, HardwareBlock, DualSeizure}
use Rattle.words.specs.declared.kinds.Timer.{Timer}
use Rattle.words.specs.declared.kinds.Timer.TheVariants.{T1, T5, T12, T13, T14, T15, T16, T17, T18, T19, T20, T21, T22, T23}
use Rattle.words.specs.declared.kinds.Word.{Word}
use Rattle.words.specs.declared.kinds.Word.TheVariants.{Send, Begun, Ended, Alert}

abbrev pub cause_number : EndCause → ℕ
cause_number ReleaseReceived = 1
cause_number ReleaseComplete = 2
cause_number Reset = 3
cause_number HardwareBlock = 4
cause_number DualSeizure = 5

abbrev pub cause_of : ℕ → Option EndCause
cause_of n =
    cond (n == 1) (Some ReleaseReceived)
    (cond (n == 2) (Some ReleaseComplete)
    (cond (n == 3) (Some Reset)
    (cond (n == 4) (Some HardwareBlock)
    (cond (n == 5) (Some DualSeizure) None))))

abbrev pub timer_number : Timer → ℕ
timer_number T1 = 1
timer_number T5 = 5
timer_number T12 = 12
timer_number T13 = 13
timer_number T14 = 14
timer_number T15 = 15
timer_number T16 = 16
timer_number T17 = 17
timer_number T18 = 18
timer_number T19 = 19
timer_number T20 = 20
timer_number T21 = 21
timer_number T22 = 22
timer_number T23 = 23

abbrev pub timer_of : ℕ → Option Timer
timer_of n =
    cond (n == 1) (Some T1)
    (cond (n == 5) (Some T5)
    (cond (n == 12) (Some T12)
    (cond (n == 13) (Some T13)
    (cond (n == 14) (Some T14)
    (cond (n == 15) (Some T15)
    (cond (n == 16) (Some T16)
    (cond (n == 17) (Some T17)
    (cond (n == 18) (Some T18)
    (cond (n == 19) (Some T19)
    (cond (n == 20) (Some T20)
    (cond (n == 21) (Some T21)
    (cond (n == 22) (Some T22)
    (cond (n == 23) (Some T23) None)))))))))))))

-- bit 12 of a begun word
abbrev pub incoming : Direction → ℕ
incoming Outgoing = 0
incoming Incoming = 1

-- send: bits 27 to 16 the place, 15 to 0 the length; begun: bit 12 set for incoming;
-- ended and alert: bits 19 to 12 the cause or the timer; of these three, bits 11 to 0 the CIC
abbrev pub number_of : Word → ℕ
number_of (Send place length) = 0x1000_0000 + place % 4096 * 65536 + length
number_of (Begun way cic) = 0x2000_0000 + incoming way * 4096 + cic.0 % 4096
number_of (Ended cause cic) = 0x3000_0000 + cause_number cause * 4096 + cic.0 % 4096
number_of (Alert timer cic) = 0x4000_0000 + timer_number timer * 4096 + cic.0 % 4096

abbrev pub direction_of : ℕ → Option Direction
direction_of n = cond (n == 0) (Some Outgoing) (cond (n == 1) (Some Incoming) None)

-- by the kind, the bits over the CIC, and the CIC
abbrev pub word_by : ℕ → ℕ → Cic → ℕ → Option Word
word_by kind field cic n =
    cond (kind == 1) (Some (Send (n / 65536 % 4096) (n % 65536)))
    (cond (kind == 2) (option_map (λ way. Begun way cic) (direction_of field))
    (cond (kind == 3) (option_map (λ cause. Ended cause cic) (cause_of field))
    (cond (kind == 4) (option_map (λ timer. Alert timer cic) (timer_of field)) None)))

-- the word that a number says
abbrev pub word_of : ℕ → Option Word
word_of n = word_by (n / 0x1000_0000) (n / 4096 % 65536) (record { 0 = n % 4096 }) n

-- a word's numbers keep to their bits
abbrev pub Fits : Word → Type 0
Fits (Send place length) = (place < 4096) × (length < 65536)
Fits (Begun way cic) = cic.0 < 4096
Fits (Ended cause cic) = cic.0 < 4096
Fits (Alert timer cic) = cic.0 < 4096
