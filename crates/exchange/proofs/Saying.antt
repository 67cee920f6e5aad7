-- The words of a move, read beside its octets, are what it reports.
use Rattle.std.proofs.Common.{◌≡◌, ℕ, suc, ◌+◌, ◌<◌, ◌≤◌, List, [], ◌∷◌, ◌++◌, map, drop, length, Some, None, Option, refl, sym, ap, ◌∙◌, arith, nat_le, true, length-append}
use Rattle.std.specs.List.{flat_map}
use Rattle.std.proofs.Math.Seq.{take-append_seam, drop-append_seam}
use Rattle.std.proofs.lemmas.List.{map-append, drop-drop}
use Rattle.std.proofs.lemmas.Bool.Decides.{nat_tests}
use Rattle.status.specs.declared.cic.Cic.{Cic}
use Rattle.message.specs.Encode.{encode}
use Rattle.message.specs.Msg.{Msg}
use Rattle.circuit.specs.Laws.{end_word, begin_word, told_of}
use Rattle.circuit.specs.declared.record.Circuit.{Circuit}
use Rattle.circuit.specs.declared.rules.Change.{Change}
use Rattle.words.specs.Words.{number_of}
use Rattle.words.proofs.Reading.{read_back}
use Rattle.words.specs.declared.kinds.Direction.{Direction}
use Rattle.words.specs.declared.kinds.EndCause.{EndCause}
use Rattle.words.specs.declared.kinds.Timer.{Timer}
use Rattle.words.specs.declared.kinds.Word.{Word}
use Rattle.words.specs.declared.kinds.Word.TheVariants as word
use Rattle.supervision.specs.declared.trunk.Config.{Config}
use Rattle.supervision.specs.Moves.{Move, told_from, sends_from, alert_word, step_of, words_of, call_words, octets_of}
use Rattle.supervision.specs.Trunks.{cic_at}
use Rattle.exchange.specs.Events.{Meant, Send, Begun, Ended, says}
use Rattle.exchange.specs.Reports.{call_events, alerts, reports}
use Rattle.exchange.proofs.Alerting.{IsOfCic}

-- words that are read so beside all the octets
abbrev Reads : List ℕ → List Word → List Meant → Type 0
Reads all ws ms = map (says all) (map number_of ws) ≡ ms

both_read : (all : List ℕ) (xs ys : List Word) (ms ns : List Meant) → Reads all xs ms → Reads all ys ns → Reads all (xs ++ ys) (ms ++ ns)
both_read all xs ys ms ns x y = rw (map-append number_of xs ys, map-append (says all) (map number_of xs) (map number_of ys), x, y) refl

calls_append : (xs ys : List Word) → call_events (xs ++ ys) ≡ call_events xs ++ call_events ys
calls_append [] ys = refl
calls_append (word.Begun way cic ∷ xs) ys = ap (λ ms. Begun way cic ∷ ms) (calls_append xs ys)
calls_append (word.Ended cause cic ∷ xs) ys = ap (λ ms. Ended cause cic ∷ ms) (calls_append xs ys)
calls_append (word.Send place len ∷ xs) ys = calls_append xs ys
calls_append (word.Alert timer cic ∷ xs) ys = calls_append xs ys

-- words of calls, each read as it is
abbrev CallsRead : List ℕ → List Word → Type 0
CallsRead all ws = Reads all ws (call_events ws)

both_calls : (all : List ℕ) (xs ys : List Word) → CallsRead all xs → CallsRead all ys → CallsRead all (xs ++ ys)
both_calls all xs ys x y = both_read all xs ys (call_events xs) (call_events ys) x y ∙ sym (calls_append xs ys)

end_read : (all : List ℕ) (c : Cic) (o : Option EndCause) → c.0 < 4096 → CallsRead all (end_word c o)
end_read all c None a = refl
end_read all c (Some cause) a = rw (read_back (word.Ended cause c) a) refl

begin_read : (all : List ℕ) (c : Cic) (o : Option Direction) → c.0 < 4096 → CallsRead all (begin_word c o)
begin_read all c None a = refl
begin_read all c (Some way) a = rw (read_back (word.Begun way c) a) refl

calls_read : (all : List ℕ) (t : Config) (f : ℕ → Circuit → Change) (k : ℕ) (cs : List Circuit) → t.first.0 + (k + length cs) ≤ 4096 → CallsRead all (told_from t f k cs)
calls_read all t f k [] a = refl
calls_read all t f k (c ∷ cs) a =
    let cic = cic_at t k in
    let d = f k c in
    let small : cic.0 < 4096 = omega (arith, a) in
    both_calls all (told_of cic d) (told_from t f (suc k) cs)
    (both_calls all (end_word cic d.ended) (begin_word cic d.begun) (end_read all cic d.ended small) (begin_read all cic d.begun small))
    (calls_read all t f (suc k) cs (omega (arith, a)))

sends_read : (all : List ℕ) (at : ℕ) (ms : List Msg) → length all < 4096 → at + length (flat_map encode ms) ≡ length all → drop at all ≡ flat_map encode ms → Reads all (sends_from at ms) (map (λ m. Send (encode m)) ms)
sends_read all at [] small size here = refl
sends_read all at (m ∷ ms) small size here =
    let e = encode m in
    let rest = flat_map encode ms in
    let both : length (e ++ rest) ≡ length e + length rest = length-append e rest in
    let within : nat_le (at + length e) (length all) ≡ true = grind (arith, nat_tests, both, size) in
    let number = read_back (word.Send at (length e)) (omega (arith, both, size, small), omega (arith, both, size, small)) in
    let next : drop (at + length e) all ≡ rest = sym (drop-drop (length e) at all) ∙ (rw here (drop-append_seam e rest)) in
    let others = sends_read all (at + length e) ms small (omega (arith, both, size)) next in
    rw (number, within, here, take-append_seam e rest, others) refl

alert_read : (all : List ℕ) (o : Option (Timer × Cic)) → IsOfCic o → Reads all (alert_word o) (alerts o)
alert_read all None a = refl
alert_read all (Some (timer, cic)) a = rw (read_back (word.Alert timer cic) a) refl

pub move_read : (t : Config) (m : Move) (table : List Circuit) → length (octets_of m) < 4096 → IsOfCic m.alert → t.first.0 + length table ≤ 4096 → map (says (octets_of m)) (map number_of (words_of t m table)) ≡ reports t m table
move_read t m table small alert places =
    let all = octets_of m in
    both_read all (call_words t m table) (sends_from 0 m.sent ++ alert_word m.alert) _ _ (calls_read all t (step_of m) 0 table (omega (arith, places)))
    (both_read all (sends_from 0 m.sent) (alert_word m.alert) _ _ (sends_read all 0 m.sent small (omega arith) refl) (alert_read all m.alert alert))
