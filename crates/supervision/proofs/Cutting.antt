-- What an operation tells and writes is cut again into its messages.
use Rattle.std.proofs.Common.{◌≡◌, ℕ, suc, ◌+◌, ◌/◌, ◌<◌, ◌≤◌, Bool, true, false, cond, List, [], ◌∷◌, ◌++◌, map, length, take, drop, Some, None, Option, sym, refl, ap, ◌∙◌, subst, append_assoc, length-append, take_at, drop_at, arith}
use Rattle.std.specs.List.{flat_map}
use Rattle.std.proofs.lemmas.Bool.{eq-eqb, ne_eqb}
use Rattle.status.specs.declared.cic.Cic.{Cic}
use Rattle.message.specs.Encode.{encode}
use Rattle.message.specs.Msg.{Msg}
use Rattle.circuit.specs.Laws.{told_of, end_word, begin_word}
use Rattle.circuit.specs.declared.record.Circuit.{Circuit}
use Rattle.circuit.specs.declared.rules.Change.{Change}
use Rattle.words.specs.Words.{number_of, cause_number, timer_number, incoming}
use Rattle.words.specs.declared.kinds.Direction.{Direction}
use Rattle.words.specs.declared.kinds.Direction.TheVariants.{Outgoing, Incoming}
use Rattle.words.specs.declared.kinds.EndCause.{EndCause}
use Rattle.words.specs.declared.kinds.Timer.{Timer}
use Rattle.words.specs.declared.kinds.Word.{Word}
use Rattle.words.specs.declared.kinds.Word.TheVariants.{Send, Begun, Ended, Alert}
use Rattle.supervision.specs.Cutting.{is_send, place_told, length_told, cut, Gapless}
use Rattle.supervision.specs.declared.trunk.Config.{Config}
use Rattle.supervision.specs.Moves.{Move, told_from, sends_from, alert_word, step_of, words_of, octets_of}
use Rattle.supervision.specs.Trunks.{cic_at}

-- what words tell of octets, from the octet `at` on: which messages, and that they stand without a gap to the end
record Cuts (at : ℕ) (ws octets : List ℕ) (messages : List (List ℕ)) : Type 0 where
  cuts : cut ws octets ≡ messages
  gapless : Gapless at ws (length octets)

-- a word that is no send tells of no message
other : (at w : ℕ) (ws o : List ℕ) (l : List (List ℕ)) → is_send w ≡ false → Cuts at ws o l → Cuts at (w ∷ ws) o l
other at w ws o l e c = record { cuts = rw e c.cuts; gapless = rw e c.gapless }

incoming_small : (way : Direction) → incoming way ≤ 1
incoming_small Outgoing = omega arith
incoming_small Incoming = omega arith

cause_small : (c : EndCause) → cause_number c ≤ 5
cause_small c = grind arith

timer_small : (x : Timer) → timer_number x ≤ 23
timer_small x = grind arith

begun_other : (way : Direction) (cic : Cic) → is_send (number_of (Begun way cic)) ≡ false
begun_other way cic = let i = incoming_small way in ne_eqb (number_of (Begun way cic) / 0x1000_0000) 1 (λ e. omega (arith, e, i))

ended_other : (c : EndCause) (cic : Cic) → is_send (number_of (Ended c cic)) ≡ false
ended_other c cic = let i = cause_small c in ne_eqb (number_of (Ended c cic) / 0x1000_0000) 1 (λ e. omega (arith, e, i))

alert_other : (x : Timer) (cic : Cic) → is_send (number_of (Alert x cic)) ≡ false
alert_other x cic = let i = timer_small x in ne_eqb (number_of (Alert x cic) / 0x1000_0000) 1 (λ e. omega (arith, e, i))

told_cuts : (at : ℕ) (cic : Cic) (d : Change) (us : List Word) (o : List ℕ) (l : List (List ℕ))
    → Cuts at (map number_of us) o l → Cuts at (map number_of (told_of cic d ++ us)) o l
told_cuts at cic d us o l c = go d.ended d.begun
  where
    go : (x : Option EndCause) (y : Option Direction) → Cuts at (map number_of ((end_word cic x ++ begin_word cic y) ++ us)) o l
    go None None = c
    go None (Some y) = other at _ _ o l (begun_other y cic) c
    go (Some x) None = other at _ _ o l (ended_other x cic) c
    go (Some x) (Some y) = other at _ _ o l (ended_other x cic) (other at _ _ o l (begun_other y cic) c)

calls_cut : (at : ℕ) (t : Config) (f : ℕ → Circuit → Change) (k : ℕ) (T : List Circuit) (us : List Word) (o : List ℕ) (l : List (List ℕ))
    → Cuts at (map number_of us) o l → Cuts at (map number_of (told_from t f k T ++ us)) o l
calls_cut at t f k [] us o l c = c
calls_cut at t f k (x ∷ xs) us o l c =
    subst (λ z. Cuts at (map number_of z) o l) (sym (append_assoc (told_of (cic_at t k) (f k x)) (told_from t f (suc k) xs) us))
    (told_cuts at (cic_at t k) (f k x) (told_from t f (suc k) xs ++ us) o l (calls_cut at t f (suc k) xs us o l c))

send_is : (at n : ℕ) → n < 65536 → is_send (number_of (Send at n)) ≡ true
send_is at n h = eq-eqb (number_of (Send at n) / 0x1000_0000) 1 (omega (arith, h))

place_is : (at n : ℕ) → at < 4096 → n < 65536 → place_told (number_of (Send at n)) ≡ at
place_is at n l h = omega (arith, l, h)

length_is : (at n : ℕ) → n < 65536 → length_told (number_of (Send at n)) ≡ n
length_is at n h = omega (arith, h)

-- each message has at least one octet, so that no place passes what a word can say
encoded : (m : Msg) → 3 ≤ length (encode m)
encoded m = grind arith

-- the messages ms, after the octets `before`
sends_cut : (before : List ℕ) (ms : List Msg) (us : List Word) (o : List ℕ) → o ≡ before ++ flat_map encode ms → length o ≤ 4096
    → Cuts (length o) (map number_of us) o [] → Cuts (length before) (map number_of (sends_from (length before) ms ++ us)) o (map encode ms)
sends_cut before [] us o e h c = record { cuts = c.cuts; gapless = let z : length before ≡ length o = rw e (sym (rw (length-append before []) (omega arith))) in rw z c.gapless }
sends_cut before (m ∷ ms) us o e h c =
    let n = length (encode m) in
    let more = flat_map encode ms in
    let z : length o ≡ length before + (n + length more) = rw (e, length-append before (encode m ++ more), length-append (encode m) more) refl in
    let three = encoded m in
    let far : length before < 4096 = omega (arith, h, z, three) in
    let small : n < 65536 = omega (arith, h, z) in
    let long : length (before ++ encode m) ≡ length before + n = length-append before (encode m) in
    let rest = sends_cut (before ++ encode m) ms us o (e ∙ sym (append_assoc before (encode m) more)) h c in
    let d : drop (length before) o ≡ encode m ++ more = rw e (drop_at before (encode m ++ more) (length before) refl) in
    let k : take n (encode m ++ more) ≡ encode m = take_at (encode m) more n refl in
    let here = rw long at rest in
    record {
      cuts = rw (send_is (length before) n small, length_is (length before) n small, place_is (length before) n far small, d, k) (ap (λ x. encode m ∷ x) here.cuts);
      gapless = rw (send_is (length before) n small, length_is (length before) n small, place_is (length before) n far small) (refl, here.gapless);
    }

alert_cuts : (a : Option (Timer × Cic)) (o : List ℕ) → Cuts (length o) (map number_of (alert_word a)) o []
alert_cuts None o = record { cuts = refl; gapless = refl }
alert_cuts (Some (x, cic)) o = other _ _ [] o [] (alert_other x cic) (record { cuts = refl; gapless = refl })

said : (t : Config) (m : Move) (T : List Circuit) → length (octets_of m) ≤ 4096 → Cuts 0 (map number_of (words_of t m T)) (octets_of m) (map encode m.sent)
said t m T h =
    calls_cut 0 t (step_of m) 0 T (sends_from 0 m.sent ++ alert_word m.alert) (octets_of m) (map encode m.sent)
    (sends_cut [] m.sent (alert_word m.alert) (octets_of m) refl h (alert_cuts m.alert (octets_of m)))

-- the words and octets of a move are cut into its messages
pub cuts_back : (t : Config) (m : Move) (T : List Circuit) → length (octets_of m) ≤ 4096
    → cut (map number_of (words_of t m T)) (octets_of m) ≡ map encode m.sent
cuts_back t m T h = (said t m T h).cuts

-- which stand one after the other, from the first octet to the last
pub is_gapless : (t : Config) (m : Move) (T : List Circuit) → length (octets_of m) ≤ 4096
    → Gapless 0 (map number_of (words_of t m T)) (length (octets_of m))
is_gapless t m T h = (said t m T h).gapless

-- what is left of messages without a gap starts before their end
pub starts_within : (at : ℕ) (ws : List ℕ) (end : ℕ) → Gapless at ws end → at ≤ end
starts_within at [] end h = omega (arith, h)
starts_within at (w ∷ ws) end h = go (is_send w) (starts_within (at + length_told w) ws end) (starts_within at ws end) h
  where
    go : (b : Bool) → (Gapless (at + length_told w) ws end → at + length_told w ≤ end) → (Gapless at ws end → at ≤ end)
        → cond b ((place_told w ≡ at) × Gapless (at + length_told w) ws end) (Gapless at ws end) → at ≤ end
    go true f g h = let l = f h.1 in omega (arith, l)
    go false f g h = g h
