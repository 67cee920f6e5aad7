-- The words told of a circuit can be read from their numbers.
use Rattle.std.proofs.Common.{◌≡◌, ℕ, suc, ◌+◌, ◌*◌, ◌/◌, ◌%◌, ◌<◌, ◌≤◌, Bool, cond, eqb, List, [], ◌∷◌, ◌++◌, map, length, Some, None, Option, refl, ap, ◌∙◌, arith}
use Rattle.std.specs.Option.{option_map}
use Rattle.status.specs.declared.cic.Cic.{Cic}
use Rattle.message.specs.Encode.{encode}
use Rattle.message.specs.Msg.{Msg}
use Rattle.circuit.specs.Laws.{told_of, end_word, begin_word}
use Rattle.circuit.specs.declared.record.Circuit.{Circuit}
use Rattle.circuit.specs.declared.rules.Change.{Change}
use Rattle.words.specs.Words.{number_of, word_of, cause_number, cause_of, timer_number, timer_of}
use Rattle.words.specs.declared.kinds.Direction.{Direction}
use Rattle.words.specs.declared.kinds.Direction.TheVariants.{Outgoing, Incoming}
use Rattle.words.specs.declared.kinds.EndCause.{EndCause}
use Rattle.words.specs.declared.kinds.Timer.{Timer}
use Rattle.words.specs.declared.kinds.Word.{Word}
use Rattle.words.specs.declared.kinds.Word.TheVariants.{Send, Begun, Ended, Alert}
use Rattle.supervision.specs.declared.trunk.Config.{Config}
use Rattle.supervision.specs.Laws.{about}
use Rattle.supervision.specs.Moves.{Move, told_from, sends_from, alert_word, step_of, words_of}
use Rattle.supervision.specs.Trunks.{cic_at}
use Rattle.agreement.specs.Reading.{onto, read}
use Rattle.agreement.proofs.Passing.{Sends, Each, is_short}

-- words whose CIC or length can be read from their numbers
abbrev pub Legible : List Word → Type 0
Legible [] = Unit {0}
Legible (Send place len ∷ ws) = (len < 65536) × Legible ws
Legible (Begun way cic ∷ ws) = (cic.0 < 4096) × Legible ws
Legible (Ended cause cic ∷ ws) = (cic.0 < 4096) × Legible ws
Legible (Alert timer cic ∷ ws) = Legible ws

pub legible_append : (xs ys : List Word) → Legible xs → Legible ys → Legible (xs ++ ys)
legible_append [] ys h g = g
legible_append (Send p l ∷ xs) ys h g = (h.0, legible_append xs ys h.1 g)
legible_append (Begun w c ∷ xs) ys h g = (h.0, legible_append xs ys h.1 g)
legible_append (Ended w c ∷ xs) ys h g = (h.0, legible_append xs ys h.1 g)
legible_append (Alert t c ∷ xs) ys h g = legible_append xs ys h g

told_legible : (cic : Cic) (d : Change) → cic.0 < 4096 → Legible (told_of cic d)
told_legible cic d h = go d.ended d.begun
  where
    go : (x : Option EndCause) (y : Option Direction) → Legible (end_word cic x ++ begin_word cic y)
    go None None = tt
    go None (Some y) = (h, tt)
    go (Some x) None = (h, tt)
    go (Some x) (Some y) = (h, (h, tt))

calls_legible : (t : Config) (f : ℕ → Circuit → Change) (k : ℕ) (T : List Circuit) → t.first.0 + (k + length T) ≤ 4096 → Legible (told_from t f k T)
calls_legible t f k [] h = tt
calls_legible t f k (c ∷ cs) h =
    let a = t.first.0 in
    let n = length cs in
    legible_append (told_of (cic_at t k) (f k c)) (told_from t f (suc k) cs) (told_legible (cic_at t k) (f k c) (omega (arith, h))) (calls_legible t f (suc k) cs (omega (arith, h)))

sends_legible : (t : Config) (E : ℕ → Bool) (at : ℕ) (ms : List Msg) → Each (Sends t E) ms → Legible (sends_from at ms)
sends_legible t E at [] p = tt
sends_legible t E at (m ∷ ms) p =
    let h = is_short m p.0.passes.allowed p.0.body in
    (omega (arith, h), sends_legible t E (at + length (encode m)) ms p.1)

alert_legible : (a : Option (Timer × Cic)) → Legible (alert_word a)
alert_legible None = tt
alert_legible (Some x) = tt

pub words_legible : (t : Config) (E : ℕ → Bool) (m : Move) (T : List Circuit) → t.first.0 + length T ≤ 4096 → Each (Sends t E) m.sent → Legible (words_of t m T)
words_legible t E m T h p =
    legible_append (told_from t (step_of m) 0 T) (sends_from 0 m.sent ++ alert_word m.alert)
    (calls_legible t (step_of m) 0 T (let n = length T in let a = t.first.0 in omega (arith, h)))
    (legible_append (sends_from 0 m.sent) (alert_word m.alert) (sends_legible t E 0 m.sent p) (alert_legible m.alert))

-- ## Numbers read back

kind_is : (a b n k : ℕ) → n ≡ a * 0x1000_0000 + b → b < 0x1000_0000 → a ≡ k → n / 0x1000_0000 ≡ k
kind_is a b n k e h q = omega (arith, e, h, q)

begun_back : (way : Direction) (cic : Cic) → cic.0 < 4096 → word_of (number_of (Begun way cic)) ≡ Some (Begun way cic)
begun_back Outgoing cic h =
    let n = number_of (Begun Outgoing cic) in
    let a : n / 0x1000_0000 ≡ 2 = omega (arith, h) in
    let b : n / 4096 % 65536 ≡ 0 = omega (arith, h) in
    let c : n % 4096 ≡ cic.0 = omega (arith, h) in
    rw (a, b, c) refl
begun_back Incoming cic h =
    let n = number_of (Begun Incoming cic) in
    let a : n / 0x1000_0000 ≡ 2 = omega (arith, h) in
    let b : n / 4096 % 65536 ≡ 1 = omega (arith, h) in
    let c : n % 4096 ≡ cic.0 = omega (arith, h) in
    rw (a, b, c) refl

cause_small : (x : EndCause) → cause_number x < 65536
cause_small x = grind arith

cause_back : (x : EndCause) → cause_of (cause_number x) ≡ Some x
cause_back x = grind arith

ended_back : (x : EndCause) (cic : Cic) → cic.0 < 4096 → word_of (number_of (Ended x cic)) ≡ Some (Ended x cic)
ended_back x cic h =
    let n = number_of (Ended x cic) in
    let s = cause_small x in
    let a : n / 0x1000_0000 ≡ 3 = omega (arith, h, s) in
    let b : n / 4096 % 65536 ≡ cause_number x = omega (arith, h, s) in
    let c : n % 4096 ≡ cic.0 = omega (arith, h) in
    rw (a, b, c, cause_back x) refl

-- what is read of a word that is not of a call is nothing about a circuit
send_back : (p l k : ℕ) (ws : List Word) → l < 65536 → about k (onto (word_of (number_of (Send p l))) ws) ≡ about k ws
send_back p l k ws h =
    let n = number_of (Send p l) in
    let a : n / 0x1000_0000 ≡ 1 = omega (arith, h) in
    rw a refl

timer_small : (x : Timer) → timer_number x < 65536
timer_small x = grind arith

alert_back : (x : Timer) (cic : Cic) (k : ℕ) (ws : List Word) → about k (onto (word_of (number_of (Alert x cic))) ws) ≡ about k ws
alert_back x cic k ws =
    let n = number_of (Alert x cic) in
    let s = timer_small x in
    let a : n / 0x1000_0000 ≡ 4 = omega (arith, s) in
    rw a (go (timer_of (n / 4096 % 65536)))
  where
    go : (o : Option Timer) → about k (onto (option_map (λ y. Alert y (record { 0 = number_of (Alert x cic) % 4096 })) o) ws) ≡ about k ws
    go None = refl
    go (Some y) = refl

-- one word more, if it is about the circuit
same_more : (b : Bool) (w : Word) (us vs : List Word) → us ≡ vs → cond b (w ∷ us) us ≡ cond b (w ∷ vs) vs
same_more b w us vs e = rw e refl

-- the words about a circuit are read from the numbers
pub read_back : (k : ℕ) (ws : List Word) → Legible ws → about k (read (map number_of ws)) ≡ about k ws
read_back k [] h = refl
read_back k (Send p l ∷ ws) h = send_back p l k (read (map number_of ws)) h.0 ∙ read_back k ws h.1
read_back k (Begun w c ∷ ws) h =
    ap (λ o. about k (onto o (read (map number_of ws)))) (begun_back w c h.0) ∙ same_more (eqb c.0 k) (Begun w c) (about k (read (map number_of ws))) (about k ws) (read_back k ws h.1)
read_back k (Ended x c ∷ ws) h =
    ap (λ o. about k (onto o (read (map number_of ws)))) (ended_back x c h.0) ∙ same_more (eqb c.0 k) (Ended x c) (about k (read (map number_of ws))) (about k ws) (read_back k ws h.1)
read_back k (Alert x c ∷ ws) h = alert_back x c k (read (map number_of ws)) ∙ read_back k ws h
