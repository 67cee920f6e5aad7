-- A move that is done, with one message more, or with its alert.
use Rattle.std.proofs.Common.{◌≡◌, ℕ, ◌+◌, ◌<◌, ◌≤◌, Bool, true, false, cond, ltb, List, [], ◌∷◌, ◌++◌, map, length, take, drop, set, Some, None, Ok, Err, Result, sym, refl, ap, ◌∙◌, append_assoc, add-zero, zero-add, length-append, arith}
use Rattle.std.proofs.lemmas.List.{append-nil, length-map, map_push, length_push, take-append-drop}
use Rattle.std.specs.List.{flat_map}
use Rattle.status.specs.declared.cic.Cic.{Cic}
use Rattle.message.proofs.RoundTrip.{written_back}
use Rattle.message.specs.Encode.{encode, refusal_of, written}
use Rattle.message.specs.Msg.{Msg}
use Rattle.message.specs.declared.fault.MessageFault.{MessageFault}
use Rattle.message.specs.declared.fault.MessageFault.TheVariants.{NoRoom}
use Rattle.circuit.specs.declared.record.Circuit.{Circuit}
use Rattle.circuit.specs.declared.rules.Change.{Change}
use Rattle.words.specs.Words.{number_of}
use Rattle.words.specs.declared.kinds.Timer.{Timer}
use Rattle.words.specs.declared.kinds.Word.{Word}
use Rattle.words.specs.declared.kinds.Word.TheVariants.{Send, Alert}
use Rattle.supervision.specs.declared.trunk.Config.{Config}
use Rattle.supervision.specs.Expiring.{alerting}
use Rattle.supervision.specs.Lending.{AreRead, Lent, Performed, lent, over, carried}
use Rattle.supervision.specs.Moves.{Move, each_from, step_of, where_named, told_from, sends_from, call_words, words_of, octets_of}
use Rattle.supervision.specs.Receiving.{moving, nothing}
use Rattle.supervision.specs.Steps.{Stood, sending}
use Rattle.circuit.specs.Changes.{quiet}
use Rattle.supervision.proofs.Naming.{unnamed}
use Rattle.supervision.proofs.Settling.{settled_same}
use Rattle.supervision.proofs.Stepping.{Quiet, each_quiet, told-quiet}
use Rattle.supervision.proofs.Writing.{push_at, more_at, length_over}

flat-append : (xs ys : List Msg) → flat_map encode (xs ++ ys) ≡ flat_map encode xs ++ flat_map encode ys
flat-append [] ys = refl
flat-append (m ∷ xs) ys = ap (λ o. encode m ++ o) (flat-append xs ys) ∙ sym (append_assoc (encode m) (flat_map encode xs) (flat_map encode ys))

flat_one : (xs : List Msg) (m : Msg) → flat_map encode (xs ++ m ∷ []) ≡ flat_map encode xs ++ encode m
flat_one xs m = flat-append xs (m ∷ []) ∙ rw (append-nil (encode m)) refl

sends_more : (at : ℕ) (xs : List Msg) (m : Msg) → sends_from at (xs ++ m ∷ []) ≡ sends_from at xs ++ Send (at + length (flat_map encode xs)) (length (encode m)) ∷ []
sends_more at [] m = rw (add-zero at) refl
sends_more at (x ∷ xs) m =
    let e : at + length (encode x) + length (flat_map encode xs) ≡ at + (length (encode x) + length (flat_map encode xs)) = omega arith in
    ap (λ ws. Send at (length (encode x)) ∷ ws) (sends_more (at + length (encode x)) xs m)
    ∙ rw (e, length-append (encode x) (flat_map encode xs)) refl

-- what was written is a whole message
pub written_ok : (msg : Msg) (n k : ℕ) → refusal_of msg ≡ None → Ok k ≡ written (encode msg) (refusal_of msg) n → k ≡ length (encode msg)
written_ok msg n k e h = go (ltb n (length (encode msg))) (rw e at h)
  where
    go : (b : Bool) → ◌≡◌ {A = Result ℕ MessageFault} (Ok k) (cond b (Err NoRoom) (Ok (length (encode msg)))) → k ≡ length (encode msg)
    go true q = let z : ◌≡◌ {A = ℕ} 0 1 = cc in absurd (omega arith)
    go false q = cc

-- the words with one message more, where no alert is told
words_more : (t : Config) (m : Move) (msg : Msg) (T : List Circuit) → m.alert ≡ None
    → words_of t (sending (msg ∷ []) m) T ≡ words_of t m T ++ Send (length (octets_of m)) (length (encode msg)) ∷ []
words_more t m msg T e =
    let calls = call_words t m T in
    let last = Send (length (octets_of m)) (length (encode msg)) ∷ [] in
    rw (e, append-nil (sends_from 0 m.sent), append-nil (sends_from 0 (m.sent ++ msg ∷ [])), sends_more 0 m.sent msg, zero-add (length (octets_of m)))
    (sym (append_assoc calls (sends_from 0 m.sent) last))

words_alert : (t : Config) (m : Move) (x : Timer) (cic : Cic) (T : List Circuit) → m.alert ≡ None
    → words_of t (alerting (Some (x, cic)) m) T ≡ words_of t m T ++ Alert x cic ∷ []
words_alert t m x cic T e =
    rw (e, append-nil (sends_from 0 m.sent)) (sym (append_assoc (call_words t m T) (sends_from 0 m.sent) (Alert x cic ∷ [])))

-- what stands after one word more, and octets after those that stand
more_written : (t : Config) (m m' : Move) (x : Word) (os : List ℕ) (before : Lent) (T : List Circuit) (H : List Bool) (n n' : ℕ × ℕ) (w o w' o' : List ℕ)
    → m'.named ≡ m.named
    → m'.rule ≡ m.rule
    → words_of t m' before.table ≡ words_of t m before.table ++ x ∷ []
    → octets_of m' ≡ octets_of m ++ os
    → Performed t m n before (lent T H w o)
    → n.0 < length w
    → n.1 + length os ≤ length o
    → w' ≡ set w n.0 (number_of x)
    → o' ≡ take n.1 o ++ over os (drop n.1 o)
    → n' ≡ (n.0 + 1, n.1 + length os)
    → (n.0 < 96) × (n.1 + length os ≤ 320)
    → AreRead m'.sent
    → Performed t m' n' before (lent T H w' o')
more_written t m m' x os before T H n n' w o w' o' en er ew eo p lw lo pw po pn few read =
    let said = words_of t m before.table in
    let W = before.words in
    let O = before.octets in
    let c0 : n.0 ≡ length said = ap (λ (y : ℕ × ℕ). y.0) p.counts in
    let c1 : n.1 ≡ length (octets_of m) = ap (λ (y : ℕ × ℕ). y.1) p.counts in
    let is_t : T ≡ (carried t m before).table = ap (λ (y : Lent). y.table) p.carries in
    let is_h : H ≡ (carried t m before).held = ap (λ (y : Lent). y.held) p.carries in
    let is_w : w ≡ over (map number_of said) W = ap (λ (y : Lent). y.words) p.carries in
    let is_o : o ≡ over (octets_of m) O = ap (λ (y : Lent). y.octets) p.carries in
    let lm : length (map number_of said) ≡ n.0 = length-map said number_of ∙ sym c0 in
    let size_w : length w ≡ length W = rw is_w (length_over (map number_of said) W (rw lm p.within.0)) in
    let size_o : length o ≡ length O = rw is_o (length_over (octets_of m) O (rw (← c1) p.within.1)) in
    let words : w' ≡ over (map number_of (words_of t m' before.table)) W =
    pw ∙ rw (is_w, ew, map_push number_of said x) (push_at (map number_of said) W (number_of x) n.0 lm (omega (arith, size_w, lw))) in
    let octets : o' ≡ over (octets_of m') O =
    po ∙ rw (is_o, eo) (more_at (octets_of m) os O n.1 (sym c1) (omega (arith, size_o, lo))) in
    record {
      counts = pn ∙ rw (ew, eo, length_push said x, length-append (octets_of m) os, c0, c1) refl;
      carries = rw (is_t, is_h, words, octets, en, er) refl;
      within = rw pn (omega (arith, size_w, lw), omega (arith, size_o, lo));
      few = rw pn (omega (arith, few.0), few.1);
      read = read;
    }

-- one message more is read
read_more : (ms : List Msg) (m : Msg) → AreRead ms → refusal_of m ≡ None → AreRead (ms ++ m ∷ [])
read_more [] m h e = ((e, written_back m e), tt)
read_more (x ∷ ms) m h e = (h.0, read_more ms m h.1 e)

-- a message more
pub one_sent : (t : Config) (m : Move) (msg : Msg) (before : Lent) (T : List Circuit) (H : List Bool) (n n' : ℕ × ℕ) (w o w' o' : List ℕ) → m.alert ≡ None
    → Performed t m n before (lent T H w o)
    → refusal_of msg ≡ None
    → (n.0 < 96) × (n.1 + length (encode msg) ≤ 320)
    → (96 ≤ length w) × (320 ≤ length o)
    → w' ≡ set w n.0 (number_of (Send n.1 (length (encode msg))))
    → o' ≡ take n.1 o ++ over (encode msg) (drop n.1 o)
    → n' ≡ (n.0 + 1, n.1 + length (encode msg))
    → Performed t (sending (msg ∷ []) m) n' before (lent T H w' o')
one_sent t m msg before T H n n' w o w' o' e p may few size pw po pn =
    let c1 : n.1 ≡ length (octets_of m) = ap (λ (y : ℕ × ℕ). y.1) p.counts in
    more_written t m (sending (msg ∷ []) m) (Send n.1 (length (encode msg))) (encode msg) before T H n n' w o w' o' refl refl
    (words_more t m msg before.table e ∙ rw c1 refl) (flat_one m.sent msg) p (omega (arith, few.0, size.0)) (omega (arith, few.1, size.1)) pw po pn few
    (read_more m.sent msg p.read may)

-- the alert
pub one_alert : (t : Config) (m : Move) (x : Timer) (cic : Cic) (before : Lent) (T : List Circuit) (H : List Bool) (n n' : ℕ × ℕ) (w o w' : List ℕ) → m.alert ≡ None
    → Performed t m n before (lent T H w o)
    → n.0 < 96
    → 96 ≤ length w
    → w' ≡ set w n.0 (number_of (Alert x cic))
    → n' ≡ (n.0 + 1, n.1)
    → Performed t (alerting (Some (x, cic)) m) n' before (lent T H w' o)
one_alert t m x cic before T H n n' w o w' e p few size pw pn =
    more_written t m (alerting (Some (x, cic)) m) (Alert x cic) [] before T H n n' w o w' o refl refl
    (words_alert t m x cic before.table e) (sym (append-nil (octets_of m))) p (omega (arith, few, size))
    (let is_o : o ≡ over (octets_of m) before.octets = ap (λ (y : Lent). y.octets) p.carries in
    rw (is_o, length_over (octets_of m) before.octets (within p)) (rw (add-zero n.1) p.within.1))
    pw (sym (take-append-drop n.1 o)) (pn ∙ rw (add-zero n.1) refl) (few, rw (add-zero n.1) p.few.1) p.read
  where
    within : Performed t m n before (lent T H w o) → length (octets_of m) ≤ length before.octets
    within p = let c1 : n.1 ≡ length (octets_of m) = ap (λ (y : ℕ × ℕ). y.1) p.counts in rw (← c1) p.within.1

-- the places changed, and nothing sent yet
pub stood_done : (t : Config) (named : ℕ → Bool) (rule : ℕ → Circuit → Change) (T : List Circuit) (H : List Bool) (W O : List ℕ) (table : List Circuit) (held : List Bool) (words : List ℕ) (n : ℕ)
    → Stood t (where_named named rule) T H W table held words n
    → n ≤ 96
    → n ≤ length W
    → Performed t (moving named rule []) (n, 0) (lent T H W O) (lent table held words O)
stood_done t named rule T H W O table held words n (it, ih, iw, im) few l =
    let said = told_from t (where_named named rule) 0 T in
    record {
      counts = rw (append-nil said, im) refl;
      carries = rw (it, ih, iw, append-nil said) refl;
      within = (l, omega arith);
      few = (few, omega arith);
      read = tt;
    }

-- nothing is done
pub nothing_done : (t : Config) (before : Lent) → Performed t nothing (0, 0) before before
nothing_done t before =
    let T = before.table in
    let f = step_of nothing in
    let q : Quiet f 0 (length T) = λ j _ _ c. unnamed (λ _. false) (λ _. quiet) j c refl in
    let table : each_from f 0 T ≡ T = each_quiet f 0 T q in
    let told : told_from t f 0 T ≡ [] = told-quiet t f 0 T q in
    record {
      counts = rw told refl;
      carries = rw (table, told, settled_same before.held T) refl;
      within = (omega arith, omega arith);
      few = (omega arith, omega arith);
      read = tt;
    }
