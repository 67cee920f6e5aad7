-- The octets that an operation writes, cut by the sizes that its words say, are the messages that it sends.
use Rattle.std.proofs.Common.{◌≡◌, ℕ, suc, ◌+◌, ◌/◌, ◌%◌, ◌<◌, ◌≤◌, List, [], ◌∷◌, ◌++◌, map, length, take, drop, Some, None, Option, sym, refl, ap, ◌∙◌, append_assoc, length-append, take_at, drop_at, arith}
use Rattle.std.specs.List.{flat_map, sum}
use Rattle.std.specs.Option.{option_map}
use Rattle.std.proofs.lemmas.List.Sums.{sum_by-cons}
use Rattle.status.specs.declared.cic.Cic.{Cic}
use Rattle.message.specs.Encode.{encode}
use Rattle.message.specs.Msg.{Msg}
use Rattle.circuit.specs.Laws.{told_of, end_word, begin_word}
use Rattle.circuit.specs.declared.record.Circuit.{Circuit}
use Rattle.circuit.specs.declared.rules.Change.{Change}
use Rattle.words.specs.Words.{number_of, word_of, cause_number, cause_of, timer_number, timer_of, incoming, direction_of}
use Rattle.words.specs.declared.kinds.Direction.{Direction}
use Rattle.words.specs.declared.kinds.Direction.TheVariants.{Outgoing, Incoming}
use Rattle.words.specs.declared.kinds.EndCause.{EndCause}
use Rattle.words.specs.declared.kinds.Timer.{Timer}
use Rattle.words.specs.declared.kinds.Word.{Word}
use Rattle.words.specs.declared.kinds.Word.TheVariants.{Send, Begun, Ended, Alert}
use Rattle.supervision.specs.declared.trunk.Config.{Config}
use Rattle.supervision.specs.Moves.{Move, told_from, sends_from, alert_word, step_of, words_of, octets_of}
use Rattle.supervision.specs.Trunks.{cic_at}
use Rattle.interworking.specs.Lines.{messages, size_in, sizes_in}

incoming_small : (way : Direction) → incoming way ≤ 1
incoming_small Outgoing = omega arith
incoming_small Incoming = omega arith

cause_small : (c : EndCause) → cause_number c ≤ 5
cause_small c = grind arith

timer_small : (x : Timer) → timer_number x ≤ 23
timer_small x = grind arith

-- ## A word that is no send has no size

begun_size : (way : Direction) (cic : Cic) → size_in (word_of (number_of (Begun way cic))) ≡ []
begun_size way cic =
    let n = number_of (Begun way cic) in
    let i = incoming_small way in
    let k : n / 0x1000_0000 ≡ 2 = omega (arith, i) in
    rw k (go (direction_of (n / 4096 % 65536)))
  where
    go : (o : Option Direction) → size_in (option_map (λ w. Begun w (record { 0 = number_of (Begun way cic) % 4096 })) o) ≡ []
    go None = refl
    go (Some w) = refl

ended_size : (x : EndCause) (cic : Cic) → size_in (word_of (number_of (Ended x cic))) ≡ []
ended_size x cic =
    let n = number_of (Ended x cic) in
    let i = cause_small x in
    let k : n / 0x1000_0000 ≡ 3 = omega (arith, i) in
    rw k (go (cause_of (n / 4096 % 65536)))
  where
    go : (o : Option EndCause) → size_in (option_map (λ w. Ended w (record { 0 = number_of (Ended x cic) % 4096 })) o) ≡ []
    go None = refl
    go (Some w) = refl

alert_size : (x : Timer) (cic : Cic) → size_in (word_of (number_of (Alert x cic))) ≡ []
alert_size x cic =
    let n = number_of (Alert x cic) in
    let i = timer_small x in
    let k : n / 0x1000_0000 ≡ 4 = omega (arith, i) in
    rw k (go (timer_of (n / 4096 % 65536)))
  where
    go : (o : Option Timer) → size_in (option_map (λ w. Alert w (record { 0 = number_of (Alert x cic) % 4096 })) o) ≡ []
    go None = refl
    go (Some w) = refl

send_size : (at n : ℕ) → n < 65536 → size_in (word_of (number_of (Send at n))) ≡ n ∷ []
send_size at n h =
    let w = number_of (Send at n) in
    let k : w / 0x1000_0000 ≡ 1 = omega (arith, h) in
    let s : w % 65536 ≡ n = omega (arith, h) in
    rw (k, s) refl

-- ## The words of a move

told_sizes : (cic : Cic) (d : Change) (us : List Word) → sizes_in (map number_of (told_of cic d ++ us)) ≡ sizes_in (map number_of us)
told_sizes cic d us = go d.ended d.begun
  where
    go : (x : Option EndCause) (y : Option Direction) → sizes_in (map number_of ((end_word cic x ++ begin_word cic y) ++ us)) ≡ sizes_in (map number_of us)
    go None None = refl
    go None (Some y) = rw (begun_size y cic) refl
    go (Some x) None = rw (ended_size x cic) refl
    go (Some x) (Some y) = rw (ended_size x cic, begun_size y cic) refl

calls_sizes : (t : Config) (f : ℕ → Circuit → Change) (k : ℕ) (T : List Circuit) (us : List Word)
    → sizes_in (map number_of (told_from t f k T ++ us)) ≡ sizes_in (map number_of us)
calls_sizes t f k [] us = refl
calls_sizes t f k (x ∷ xs) us =
    ap (λ (z : List Word). sizes_in (map number_of z)) (append_assoc (told_of (cic_at t k) (f k x)) (told_from t f (suc k) xs) us)
    ∙ (told_sizes (cic_at t k) (f k x) (told_from t f (suc k) xs ++ us) ∙ calls_sizes t f (suc k) xs us)

-- the size of each message
abbrev pub lengths : List Msg → List ℕ
lengths [] = []
lengths (m ∷ ms) = length (encode m) ∷ lengths ms

alert_sizes : (a : Option (Timer × Cic)) → sizes_in (map number_of (alert_word a)) ≡ []
alert_sizes None = refl
alert_sizes (Some (x, cic)) = rw (alert_size x cic) refl

sends_sizes : (at : ℕ) (ms : List Msg) (us : List Word) → length (flat_map encode ms) ≤ 320 → sizes_in (map number_of us) ≡ []
    → sizes_in (map number_of (sends_from at ms ++ us)) ≡ lengths ms
sends_sizes at [] us h e = e
sends_sizes at (m ∷ ms) us h e =
    let n = length (encode m) in
    let more = flat_map encode ms in
    let z : length (encode m ++ more) ≡ n + length more = length-append (encode m) more in
    rw (send_size at n (omega (arith, h, z))) (ap (λ (l : List ℕ). n ∷ l) (sends_sizes (at + n) ms us (omega (arith, h, z)) e))

-- the sizes in the words of a move are those of its messages
move_sizes : (t : Config) (m : Move) (T : List Circuit) → length (octets_of m) ≤ 320 → sizes_in (map number_of (words_of t m T)) ≡ lengths m.sent
move_sizes t m T h =
    calls_sizes t (step_of m) 0 T (sends_from 0 m.sent ++ alert_word m.alert)
    ∙ sends_sizes 0 m.sent (alert_word m.alert) h (alert_sizes m.alert)

all_cut : (ms : List Msg) → messages (lengths ms) (flat_map encode ms) ≡ map encode ms
all_cut [] = refl
all_cut (m ∷ ms) =
    let more = flat_map encode ms in
    let n = length (encode m) in
    let k : take n (encode m ++ more) ≡ encode m = take_at (encode m) more n refl in
    let d : drop n (encode m ++ more) ≡ more = drop_at (encode m) more n refl in
    rw (k, d) (ap (λ (l : List (List ℕ)). encode m ∷ l) (all_cut ms))

all_summed : (ms : List Msg) → sum (lengths ms) ≡ length (flat_map encode ms)
all_summed [] = refl
all_summed (m ∷ ms) =
    let z : sum (length (encode m) ∷ lengths ms) ≡ length (encode m) + sum (lengths ms) = sum_by-cons (λ x. x) (length (encode m)) (lengths ms) in
    let y : length (encode m ++ flat_map encode ms) ≡ length (encode m) + length (flat_map encode ms) = length-append (encode m) (flat_map encode ms) in
    z ∙ (ap (λ k. length (encode m) + k) (all_summed ms) ∙ sym y)

pub is_cut : (t : Config) (m : Move) (T : List Circuit) → length (octets_of m) ≤ 320 → messages (sizes_in (map number_of (words_of t m T))) (octets_of m) ≡ map encode m.sent
is_cut t m T h = ap (λ (l : List ℕ). messages l (octets_of m)) (move_sizes t m T h) ∙ all_cut m.sent

pub is_whole : (t : Config) (m : Move) (T : List Circuit) → length (octets_of m) ≤ 320 → sum (sizes_in (map number_of (words_of t m T))) ≡ length (octets_of m)
is_whole t m T h = ap sum (move_sizes t m T h) ∙ all_summed m.sent
