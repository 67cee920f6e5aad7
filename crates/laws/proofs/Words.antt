-- The words of a move follow one another in their order.
use Rattle.std.proofs.Common.{◌≡◌, ℕ, suc, ◌+◌, ◌≤◌, List, [], ◌∷◌, ◌++◌, length, Some, None, Option, sym, refl, subst, append_assoc, arith}
use Rattle.status.specs.declared.cic.Cic.{Cic}
use Rattle.message.specs.Encode.{encode}
use Rattle.message.specs.Msg.{Msg}
use Rattle.circuit.specs.Laws.{told_of, end_word, begin_word}
use Rattle.circuit.specs.declared.record.Circuit.{Circuit}
use Rattle.circuit.specs.declared.rules.Change.{Change}
use Rattle.words.specs.declared.kinds.Direction.{Direction}
use Rattle.words.specs.declared.kinds.EndCause.{EndCause}
use Rattle.words.specs.declared.kinds.Timer.{Timer}
use Rattle.words.specs.declared.kinds.Word.{Word}
use Rattle.words.specs.declared.kinds.Word.TheVariants.{Send, Begun, Ended, Alert}
use Rattle.supervision.specs.Moves.{told_from, sends_from, alert_word, step_of}
use Rattle.supervision.specs.Trunks.{cic_at}
use Rattle.supervision.specs.declared.trunk.Config.{Config}
use Rattle.laws.specs.Octets.{Sends, Rises, WordsFollow}

sends_follow : (at : ℕ) (ms : List Msg) (a : Option (Timer × Cic)) → Sends (sends_from at ms ++ alert_word a)
sends_follow at [] None = tt
sends_follow at [] (Some (x, cic)) = refl
sends_follow at (m ∷ ms) a = sends_follow (at + length (encode m)) ms a

-- after all begun and ended words
then_sends : (low : ℕ) (ms : List Msg) (a : Option (Timer × Cic)) → Rises low (sends_from 0 ms ++ alert_word a)
then_sends low [] None = tt
then_sends low [] (Some (x, cic)) = refl
then_sends low (m ∷ ms) a = sends_follow (0 + length (encode m)) ms a

-- what rises from a higher CIC on rises from a lower one
lower : (low high : ℕ) (ws : List Word) → low ≤ high → Rises high ws → Rises low ws
lower low high [] l h = tt
lower low high (Ended cause cic ∷ ws) l h = let a = h.0 in (omega (arith, l, a), h.1)
lower low high (Begun way cic ∷ ws) l h = let a = h.0 in (omega (arith, l, a), h.1)
lower low high (Send place n ∷ ws) l h = h
lower low high (Alert timer cic ∷ ws) l h = h

one_rises : (cic : Cic) (d : Change) (ws : List Word) → Rises (cic.0 + 1) ws → Rises cic.0 (told_of cic d ++ ws)
one_rises cic d ws h = go d.ended d.begun
  where
    low : Rises cic.0 ws
    low = lower cic.0 (cic.0 + 1) ws (omega arith) h

    go : (x : Option EndCause) (y : Option Direction) → Rises cic.0 ((end_word cic x ++ begin_word cic y) ++ ws)
    go None None = low
    go None (Some y) = (omega arith, h)
    go (Some x) None = (omega arith, low)
    go (Some x) (Some y) = (omega arith, (omega arith, h))

calls_rise : (t : Config) (f : ℕ → Circuit → Change) (k : ℕ) (T : List Circuit) (ws : List Word) → ((n : ℕ) → Rises n ws) → Rises (t.first.0 + k) (told_from t f k T ++ ws)
calls_rise t f k [] ws h = h (t.first.0 + k)
calls_rise t f k (c ∷ cs) ws h =
    let e : t.first.0 + suc k ≡ t.first.0 + k + 1 = omega arith in
    subst (λ z. Rises (t.first.0 + k) z) (sym (append_assoc (told_of (cic_at t k) (f k c)) (told_from t f (suc k) cs) ws))
    (one_rises (cic_at t k) (f k c) (told_from t f (suc k) cs ++ ws) (rw e at (calls_rise t f (suc k) cs ws h)))

pub words_follow : WordsFollow
words_follow t m table =
    let z : t.first.0 + 0 ≡ t.first.0 = omega arith in
    rw z at (calls_rise t (step_of m) 0 table (sends_from 0 m.sent ++ alert_word m.alert) (λ n. then_sends n m.sent m.alert))
