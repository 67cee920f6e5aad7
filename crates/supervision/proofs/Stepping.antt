-- A move, one place after the other.
use Rattle.std.proofs.Common.{◌≡◌, ℕ, zero, suc, ◌+◌, ◌<◌, ◌≤◌, Bool, List, [], ◌∷◌, ◌++◌, map, length, get_or, take, drop, set, Some, None, Option, sym, refl, ap, ◌∙◌, append_assoc, add-zero, zero-add, arith, length-append}
use Rattle.std.proofs.lemmas.List.{append-nil, take_more, take-append-drop, length-take-le, set-get_or, map-append, length-map}
use Rattle.circuit.specs.Changes.{quiet}
use Rattle.circuit.specs.Circuits.{is_open, vacant}
use Rattle.status.specs.declared.cic.Cic.{Cic}
use Rattle.circuit.specs.Laws.{told_of, end_word, begin_word}
use Rattle.words.specs.declared.kinds.Direction.{Direction}
use Rattle.words.specs.declared.kinds.EndCause.{EndCause}
use Rattle.words.specs.Words.{number_of}
use Rattle.circuit.specs.declared.record.Circuit.{Circuit}
use Rattle.circuit.specs.declared.rules.Change.{Change}
use Rattle.supervision.specs.declared.trunk.Config.{Config}
use Rattle.supervision.specs.Lending.{over, settled}
use Rattle.supervision.specs.Moves.{each_from, told_from}
use Rattle.supervision.specs.Steps.{settled_at, Stood}
use Rattle.supervision.specs.Trunks.{cic_at}
use Rattle.supervision.proofs.Settling.{settled_same, settled_at_same, settled_step}
use Rattle.supervision.proofs.Writing.{push_at, ahead_at, more_at, length_over}

abbrev pub Step : Type 0
Step = ℕ → Circuit → Change

-- from the place k on, n places stay as they are
abbrev pub Quiet : Step → ℕ → ℕ → Type 0
Quiet f k n = (j : ℕ) → k ≤ j → j < k + n → (c : Circuit) → f j c ≡ quiet c

pub each_append : (f : Step) (k : ℕ) (xs ys : List Circuit) → each_from f k (xs ++ ys) ≡ each_from f k xs ++ each_from f (k + length xs) ys
each_append f k [] ys = rw (add-zero k) refl
each_append f k (x ∷ xs) ys = ap (λ t. (f k x).circuit ∷ t) (each_append f (suc k) xs ys ∙ let e : suc k + length xs ≡ k + suc (length xs) = omega arith in rw e refl)

pub told-append : (t : Config) (f : Step) (k : ℕ) (xs ys : List Circuit) → told_from t f k (xs ++ ys) ≡ told_from t f k xs ++ told_from t f (k + length xs) ys
told-append t f k [] ys = rw (add-zero k) refl
told-append t f k (x ∷ xs) ys =
    let e : suc k + length xs ≡ k + suc (length xs) = omega arith in
    ap (λ ws. told_of (cic_at t k) (f k x) ++ ws) (told-append t f (suc k) xs ys ∙ rw e refl)
    ∙ sym (append_assoc (told_of (cic_at t k) (f k x)) (told_from t f (suc k) xs) (told_from t f (k + suc (length xs)) ys))

pub length_each : (f : Step) (k : ℕ) (xs : List Circuit) → length (each_from f k xs) ≡ length xs
length_each f k [] = refl
length_each f k (x ∷ xs) = ap suc (length_each f (suc k) xs)

pub each_quiet : (f : Step) (k : ℕ) (xs : List Circuit) → Quiet f k (length xs) → each_from f k xs ≡ xs
each_quiet f k [] q = refl
each_quiet f k (x ∷ xs) q =
    let e = q k (omega arith) (omega arith) x in
    rw (e, each_quiet f (suc k) xs (λ j a b. q j (omega arith) (omega arith))) refl

pub told-quiet : (t : Config) (f : Step) (k : ℕ) (xs : List Circuit) → Quiet f k (length xs) → told_from t f k xs ≡ []
told-quiet t f k [] q = refl
told-quiet t f k (x ∷ xs) q =
    let e = q k (omega arith) (omega arith) x in
    rw (e, told-quiet t f (suc k) xs (λ j a b. q j (omega arith) (omega arith))) refl

-- what stands after the first m places
abbrev pub Stands : Config → Step → ℕ → List Circuit → List Bool → List ℕ → List Circuit → List Bool → List ℕ → ℕ → Type 0
Stands t f m T H W table held words n =
    (table ≡ over (each_from f 0 (take m T)) T)
    × (held ≡ settled H T (over (each_from f 0 (take m T)) T))
    × (words ≡ over (map number_of (told_from t f 0 (take m T))) W)
    × (n ≡ length (told_from t f 0 (take m T)))

over-take : (m : ℕ) (T : List Circuit) → m ≤ length T → over (take m T) T ≡ T
over-take m T l = rw (length-take-le m T l) (take-append-drop m T)

-- the places before the first named one
pub stands_from : (t : Config) (f : Step) (m : ℕ) (T : List Circuit) (H : List Bool) (W : List ℕ)
    → m ≤ length T
    → Quiet f 0 m
    → Stands t f m T H W T H W 0
stands_from t f m T H W l q =
    let n : length (take m T) ≡ m = length-take-le m T l in
    let z : Quiet f 0 (length (take m T)) = rw n q in
    let a : each_from f 0 (take m T) ≡ take m T = each_quiet f 0 (take m T) z in
    let b : told_from t f 0 (take m T) ≡ [] = told-quiet t f 0 (take m T) z in
    let o : over (take m T) T ≡ T = over-take m T l in
    (rw (a, o) refl, rw (a, o) (sym (settled_same H T)), rw b refl, rw b refl)

-- one place more
pub stands_more : (t : Config) (f : Step) (m : ℕ) (T : List Circuit) (H : List Bool) (W : List ℕ) (table table' : List Circuit) (held held' : List Bool) (words words' : List ℕ) (n n' : ℕ)
    → Stands t f m T H W table held words n
    → m < length T
    → length (told_from t f 0 (take m T)) + length (told_of (cic_at t m) (f m (get_or table m vacant))) ≤ length W
    → table' ≡ set table m (f m (get_or table m vacant)).circuit
    → held' ≡ settled_at held m (is_open (get_or table m vacant)) (is_open (f m (get_or table m vacant)).circuit)
    → words' ≡ take n words ++ over (map number_of (told_of (cic_at t m) (f m (get_or table m vacant)))) (drop n words)
    → n' ≡ n + length (told_of (cic_at t m) (f m (get_or table m vacant)))
    → Stands t f (m + 1) T H W table' held' words' n'
stands_more t f m T H W table table' held held' words words' n n' (it, ih, iw, im) lt lw pt ph pw pn =
    let out = each_from f 0 (take m T) in
    let said = told_from t f 0 (take m T) in
    let len : length out ≡ m = length_each f 0 (take m T) ∙ length-take-le m T (omega arith) in
    let at : get_or table m vacant ≡ get_or T m vacant =
    ap (λ x. get_or x m vacant) it ∙ ahead_at out T vacant m len (omega arith) in
    let c = get_or T m vacant in
    let d = f m c in
    let grow : take (m + 1) T ≡ take m T ++ c ∷ [] = take_more T m vacant lt in
    let k : 0 + length (take m T) ≡ m = rw (length-take-le m T (omega arith)) (zero-add m) in
    let outs : each_from f 0 (take (m + 1) T) ≡ out ++ d.circuit ∷ [] =
    rw grow (each_append f 0 (take m T) (c ∷ []) ∙ rw k refl) in
    let says : told_from t f 0 (take (m + 1) T) ≡ said ++ told_of (cic_at t m) d =
    rw grow (told-append t f 0 (take m T) (c ∷ []) ∙ rw (k, append-nil (told_of (cic_at t m) d)) refl) in
    let lw' : length said + length (told_of (cic_at t m) d) ≤ length W = rw at at lw in
    let next : set (over out T) m d.circuit ≡ over (out ++ d.circuit ∷ []) T = push_at out T d.circuit m len lt in
    let same : get_or (over out T) m vacant ≡ c = sym (ap (λ x. get_or x m vacant) it) ∙ at in (
      pt ∙ rw (at, it, outs) next,
      ph ∙ rw (at, ih, outs, ← next)
          (rw same at (settled_step H T (over out T) m d.circuit lt (sym (length_over out T (omega arith))) same)),
      pw ∙ rw (at, iw, im, says, map-append number_of said (told_of (cic_at t m) d))
          (more_at (map number_of said) (map number_of (told_of (cic_at t m) d)) W (length said) (length-map said number_of)
          (rw (length-map (told_of (cic_at t m) d) number_of) lw')),
      pn ∙ rw (at, im, says) (sym (length-append said (told_of (cic_at t m) d))),
    )

-- a place that stays as it is
pub stands_skip : (t : Config) (f : Step) (m : ℕ) (T : List Circuit) (H : List Bool) (W : List ℕ) (table : List Circuit) (held : List Bool) (words : List ℕ) (n : ℕ)
    → Stands t f m T H W table held words n
    → m < length T
    → length (told_from t f 0 (take m T)) ≤ length W
    → f m (get_or table m vacant) ≡ quiet (get_or table m vacant)
    → Stands t f (m + 1) T H W table held words n
stands_skip t f m T H W table held words n s lt lw q =
    stands_more t f m T H W table table held held words words n n s lt
    (rw q (omega arith))
    (rw (q, set-get_or table m vacant) refl)
    (rw (q, settled_at_same held m (is_open (get_or table m vacant))) refl)
    (rw q (sym (take-append-drop n words)))
    (rw (q, add-zero n) refl)

-- and several of them
pub stands_quiet : (t : Config) (f : Step) (m d : ℕ) (T : List Circuit) (H : List Bool) (W : List ℕ) (table : List Circuit) (held : List Bool) (words : List ℕ) (n : ℕ)
    → Stands t f m T H W table held words n
    → m + d ≤ length T
    → n ≤ length W
    → Quiet f m d
    → Stands t f (m + d) T H W table held words n
stands_quiet t f m zero T H W table held words n s l lw q = rw (add-zero m) s
stands_quiet t f m (suc d) T H W table held words n s l lw q =
    let e : m + d + 1 ≡ m + suc d = omega arith in
    let h = stands_quiet t f m d T H W table held words n s (omega arith) lw (λ j a b. q j a (omega arith)) in
    rw e at (stands_skip t f (m + d) T H W table held words n h (omega arith) (rw (← h.3) lw) (q (m + d) (omega arith) (omega arith) (get_or table (m + d) vacant)))

-- the rest stays as it is
pub stands_all : (t : Config) (f : Step) (m : ℕ) (T : List Circuit) (H : List Bool) (W : List ℕ) (table : List Circuit) (held : List Bool) (words : List ℕ) (n : ℕ)
    → Stands t f m T H W table held words n
    → m ≤ length T
    → ((j : ℕ) → m ≤ j → (c : Circuit) → f j c ≡ quiet c)
    → Stood t f T H W table held words n
stands_all t f m T H W table held words n (it, ih, iw, im) l q =
    let k : 0 + length (take m T) ≡ m = rw (length-take-le m T l) (zero-add m) in
    let halves : take m T ++ drop m T ≡ T = take-append-drop m T in
    let len : length (each_from f 0 (take m T)) ≡ m = length_each f 0 (take m T) ∙ length-take-le m T l in
    let outs : each_from f 0 T ≡ each_from f 0 (take m T) ++ drop m T =
    ap (each_from f 0) (sym halves) ∙ each_append f 0 (take m T) (drop m T)
    ∙ ap (λ x. each_from f 0 (take m T) ++ x) (ap (λ j. each_from f j (drop m T)) k ∙ each_quiet f m (drop m T) (λ j a b. q j a)) in
    let said : told_from t f 0 T ≡ told_from t f 0 (take m T) =
    ap (told_from t f 0) (sym halves) ∙ told-append t f 0 (take m T) (drop m T)
    ∙ ap (λ x. told_from t f 0 (take m T) ++ x) (ap (λ j. told_from t f j (drop m T)) k ∙ told-quiet t f m (drop m T) (λ j a b. q j a))
    ∙ append-nil (told_from t f 0 (take m T)) in
    let whole : over (each_from f 0 (take m T)) T ≡ each_from f 0 T = rw len (sym outs) in
    (it ∙ whole, ih ∙ ap (settled H T) whole, iw ∙ rw said refl, im ∙ rw said refl)

-- of one circuit at most two words are told
pub told_short : (t : Cic) (d : Change) → length (told_of t d) ≤ 2
told_short t d = go d.ended d.begun
  where
    go : (e : Option EndCause) (b : Option Direction) → length (end_word t e ++ begin_word t b) ≤ 2
    go None None = omega arith
    go None (Some b) = omega arith
    go (Some e) None = omega arith
    go (Some e) (Some b) = omega arith
