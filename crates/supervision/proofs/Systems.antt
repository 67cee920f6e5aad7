-- Messages added to what was written, and which PCM systems have one.
use Rattle.std.proofs.Common.{◌≡◌, ℕ, zero, suc, ◌+◌, ◌*◌, ◌/◌, ◌<◌, ◌≤◌, Bool, false, ◌&&◌, ltb, List, [], ◌++◌, sym, refl, ap, subst, append_assoc, arith}
use Rattle.std.proofs.lemmas.Bool.{and_right}
use Rattle.std.proofs.lemmas.List.{append-nil}
use Rattle.message.specs.Msg.{Msg}
use Rattle.message.specs.declared.kinds.BlockType.{BlockType}
use Rattle.message.specs.declared.kinds.Grouped.{Grouped}
use Rattle.circuit.specs.declared.record.Circuit.{Circuit}
use Rattle.supervision.specs.declared.trunk.Config.{Config}
use Rattle.supervision.specs.Groups.{mask_by, group_for, groups_below, groups}
use Rattle.supervision.specs.Lending.{Performed, lent}
use Rattle.supervision.specs.Steps.{sending, Extends}
use Rattle.supervision.specs.Trunks.{placed}
use Rattle.supervision.proofs.Bits.{bits_same, no_bits}

-- nothing more
pub extends_none : (n : ℕ × ℕ) (w o : List ℕ) → Extends (sending []) n w o n w o
extends_none n w o = λ t m before T H e p. subst (λ (s : List Msg). Performed t (record m { sent = s }) n before (lent T H w o)) (sym (append-nil m.sent)) p

-- some, and then some
pub extends_both : (xs ys : List Msg) (a b c : ℕ × ℕ) (w o w' o' w'' o'' : List ℕ) → Extends (sending xs) a w o b w' o' → Extends (sending ys) b w' o' c w'' o''
    → Extends (sending (xs ++ ys)) a w o c w'' o''
extends_both xs ys a b c w o w' o' w'' o'' f g = λ t m before T H e p.
    subst (λ (s : List Msg). Performed t (record m { sent = s }) c before (lent T H w'' o'')) (append_assoc m.sent xs ys)
    (g t (sending xs m) before T H e (f t m before T H e p))

-- ## PCM systems without a message

pub no_group : (t : Config) (what : Grouped) (why : BlockType) (p : ℕ → Circuit → Bool) (system : ℕ) (T : List Circuit)
    → ((k : ℕ) → k / 32 ≡ system → p k (placed T k) ≡ false) → group_for t what why p system T ≡ []
no_group t what why p system T h =
    let z : mask_by p system T ≡ 0 =
    no_bits (λ j. ltb 0 j && p (system * 32 + j) (placed T (system * 32 + j))) 32
    (λ j l. and_right (ltb 0 j) (p (system * 32 + j) (placed T (system * 32 + j))) (h (system * 32 + j) (omega (arith, l)))) in
    rw z refl

-- none below the PCM system n
pub groups_none : (t : Config) (what : Grouped) (why : BlockType) (p : ℕ → Circuit → Bool) (n : ℕ) (T : List Circuit)
    → ((k : ℕ) → k / 32 < n → p k (placed T k) ≡ false) → groups_below t what why p n T ≡ []
groups_none t what why p zero T h = refl
groups_none t what why p (suc n) T h =
    rw (groups_none t what why p n T (λ k l. h k (omega (arith, l))), no_group t what why p n T (λ k e. h k (omega (arith, e)))) refl

-- none from the PCM system n on
pub groups_all : (t : Config) (what : Grouped) (why : BlockType) (p : ℕ → Circuit → Bool) (n d : ℕ) (T : List Circuit)
    → ((k : ℕ) → n ≤ k / 32 → p k (placed T k) ≡ false) → groups_below t what why p (n + d) T ≡ groups_below t what why p n T
groups_all t what why p n zero T h = let e : n + 0 ≡ n = omega arith in rw e refl
groups_all t what why p n (suc d) T h =
    let e : n + suc d ≡ suc (n + d) = omega arith in
    rw (e, groups_all t what why p n d T h, no_group t what why p (n + d) T (λ k q. h k (omega (arith, q)))) (append-nil (groups_below t what why p n T))

-- ## Tests that say the same of two tables

pub mask_same : (p q : ℕ → Circuit → Bool) (system : ℕ) (T U : List Circuit)
    → ((k : ℕ) → k / 32 ≡ system → p k (placed T k) ≡ q k (placed U k)) → mask_by p system T ≡ mask_by q system U
mask_same p q system T U h =
    bits_same (λ j. ltb 0 j && p (system * 32 + j) (placed T (system * 32 + j))) (λ j. ltb 0 j && q (system * 32 + j) (placed U (system * 32 + j))) 32
    (λ j l. ap (λ b. ltb 0 j && b) (h (system * 32 + j) (omega (arith, l))))

pub group_same : (t : Config) (what : Grouped) (why : BlockType) (p q : ℕ → Circuit → Bool) (system : ℕ) (T U : List Circuit)
    → ((k : ℕ) → k / 32 ≡ system → p k (placed T k) ≡ q k (placed U k)) → group_for t what why p system T ≡ group_for t what why q system U
group_same t what why p q system T U h = rw (mask_same p q system T U h) refl

groups_below_same : (t : Config) (what : Grouped) (why : BlockType) (p q : ℕ → Circuit → Bool) (n : ℕ) (T U : List Circuit)
    → ((k : ℕ) → p k (placed T k) ≡ q k (placed U k)) → groups_below t what why p n T ≡ groups_below t what why q n U
groups_below_same t what why p q zero T U h = refl
groups_below_same t what why p q (suc n) T U h = rw (groups_below_same t what why p q n T U h, group_same t what why p q n T U (λ k _. h k)) refl

pub groups_same : (t : Config) (what : Grouped) (why : BlockType) (p q : ℕ → Circuit → Bool) (T U : List Circuit)
    → ((k : ℕ) → p k (placed T k) ≡ q k (placed U k)) → groups t what why p T ≡ groups t what why q U
groups_same t what why p q T U h = groups_below_same t what why p q t.systems T U h
