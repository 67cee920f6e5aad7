-- Statuses and group messages of ours name what their tests say.
use Rattle.std.proofs.Common.{◌↔◌, ◌≡◌, ℕ, zero, suc, ◌+◌, ◌*◌, ◌/◌, ◌%◌, ◌^◌, ◌<◌, ◌≤◌, Bool, true, false, cond, ◌&&◌, eqb, ltb, leb, List, [], ◌∷◌, ◌++◌, get_or, sym, refl, ap, ◌∙◌, ⊎_elim, arith}
use native.Mathlib.Nat.{zero-div}
use Rattle.std.proofs.lemmas.Bool.{cases_lt, false≢true, eq-eqb, eqb-true, le-leb, lt-leb, lt-ltb, and_parts}
use Rattle.std.proofs.lemmas.List.{append-nil, get_or_past}
use Rattle.status.specs.Bits.{bit_at, octets_for}
use Rattle.message.specs.Msg.{Msg}
use Rattle.message.specs.declared.kinds.BlockType.{BlockType}
use Rattle.message.specs.declared.kinds.Grouped.{Grouped}
use Rattle.circuit.specs.declared.record.Circuit.{Circuit}
use Rattle.supervision.specs.Groups.{mask_by, group_for, groups_below, status_by}
use Rattle.supervision.specs.Orders.{group_message, status_of}
use Rattle.supervision.specs.Trunks.{placed}
use Rattle.supervision.specs.declared.trunk.Config.{Config}
use Rattle.supervision.proofs.Bits.{bit_of, bit_below, bits_fit, none_below, some_below, status_at, status_length, test_below}
use Rattle.supervision.proofs.Masks.{status_bit}
use Rattle.laws.specs.Naming.{Tells, Names, Concerned, EachNames, none, concerned, unconcerned, StatusesTell, GroupsName}
use Rattle.laws.specs.Sending.{GroupIf}

-- ## A status

bit_set : (b : Bool) → bit_of b ≡ 1 → b ≡ true
bit_set true e = refl
bit_set false e = absurd (omega (arith, e))

-- bit n of a status by a test
bit_told : (q : ℕ → Bool) (r n : ℕ) → bit_at (status_by q r) n ≡ bit_of (leb n r && q n)
bit_told q r n = ⊎_elim
    (λ (l : n / 8 < octets_for r).
    let p = λ (j : ℕ). leb j r && q j in
    let e : 8 * (0 + n / 8) + n % 8 ≡ n = omega arith in
    ap (λ x. x / 2 ^ (n % 8) % 2) (status_at p 0 (octets_for r) (n / 8) l)
    ∙ (bit_below (λ b. p (8 * (0 + n / 8) + b)) 8 (n % 8) (omega arith) ∙ ap (λ j. bit_of (p j)) e))
    (λ (l : octets_for r ≤ n / 8).
    let p = λ (j : ℕ). leb j r && q j in
    let past : get_or (status_by q r) (n / 8) 0 ≡ 0 = get_or_past (status_by q r) (n / 8) 0 (rw (status_length p 0 (octets_for r)) l) in
    let far : leb n r ≡ false = lt-leb n r (omega (arith, l)) in
    rw (past, far, zero-div (2 ^ (n % 8))) refl)
    (cases_lt (n / 8) (octets_for r))

pub statuses_tell : StatusesTell
statuses_tell q r = record {
  size = status_length (λ n. leb n r && q n) 0 (octets_for r);
  bits = λ n l. (
    λ h. bit_set (q n) (sym (bit_told q r n ∙ rw (le-leb n r l) refl) ∙ h),
    λ h. bit_told q r n ∙ rw (le-leb n r l, h) refl,
  );
  spare = λ n l. bit_told q r n ∙ rw (lt-leb n r l) refl;
}

-- ## A group message

-- a test says what P says
abbrev pub Reflects : (ℕ → Circuit → Bool) → (ℕ → Circuit → Type 0) → Type 0
Reflects p P = (k : ℕ) (x : Circuit) → ((p k x ≡ true) ↔ (P k x))

abbrev slot_test : (ℕ → Circuit → Bool) → ℕ → List Circuit → ℕ → Bool
slot_test p system T slot = ltb 0 slot && p (system * 32 + slot) (placed T (system * 32 + slot))

-- a bit is 1 where the test that it is made of holds
bit_one : (x : ℕ) (b : Bool) → eqb x 1 ≡ b → ((x ≡ 1) ↔ (b ≡ true))
bit_one x b e = (λ h. sym e ∙ eq-eqb x 1 h, λ h. eqb-true x 1 (e ∙ h))

-- the status of a mask, if each of its bits is as P says
pub mask_tells : (mask : ℕ) (P : ℕ → Type 0) → mask < 2 ^ 32 → ((n : ℕ) → n ≤ 30 → ((mask / 2 ^ (n + 1) % 2 ≡ 1) ↔ (P n))) → Tells P 30 (status_of mask)
mask_tells mask P small h = record {
  size = refl;
  bits = λ n l.
      let e = status_bit mask n (omega (arith, l)) in
      (λ g. (h n l).0 (sym e ∙ g), λ g. e ∙ (h n l).1 g);
  spare = spare;
}
  where
    spare : (n : ℕ) → 30 < n → bit_at (status_of mask) n ≡ 0
    spare n l = ⊎_elim
        (λ (b : n < 32).
        let e : n ≡ 31 = omega (arith, l, b) in
        rw e (status_bit mask 31 (omega arith) ∙ top mask small))
        (λ (b : 32 ≤ n).
        let past : get_or (status_of mask) (n / 8) 0 ≡ 0 = get_or_past (status_of mask) (n / 8) 0 (omega (arith, b)) in
        rw (past, zero-div (2 ^ (n % 8))) refl)
        (cases_lt n 32)
      where
        top : (x : ℕ) → x < 2 ^ 32 → x / 2 ^ (31 + 1) % 2 ≡ 0
        top x l = omega (arith, l)

pub mask_named : (t : Config) (what : Grouped) (why : BlockType) (p : ℕ → Circuit → Bool) (P : ℕ → Circuit → Type 0) (T : List Circuit) (system : ℕ) → Reflects p P
    → Names t what why P T system (group_message t system what why (mask_by p system T))
mask_named t what why p P T system r = record {
  status = status_of (mask_by p system T);
  is = refl;
  tells = mask_tells (mask_by p system T) (λ n. P (system * 32 + 1 + n) (placed T (system * 32 + 1 + n))) (bits_fit (slot_test p system T) 32)
      (λ n l.
      let k = system * 32 + 1 + n in
      let a : system * 32 + (n + 1) ≡ k = omega arith in
      let b : ltb 0 (n + 1) ≡ true = lt-ltb 0 (n + 1) (omega arith) in
      let e = bit_one (mask_by p system T / 2 ^ (n + 1) % 2) (p k (placed T k)) (test_below (slot_test p system T) 32 (n + 1) (omega (arith, l)) ∙ rw (b, a) refl) in
      (λ h. (r k (placed T k)).0 (e.0 h), λ h. e.1 ((r k (placed T k)).1 h)));
}

pub some_concerned : (p : ℕ → Circuit → Bool) (P : ℕ → Circuit → Type 0) (T : List Circuit) (system : ℕ) → Reflects p P → eqb (mask_by p system T) 0 ≡ false → Concerned P T system
some_concerned p P T system r e =
    let w = some_below (slot_test p system T) 32 e in
    let both = and_parts (ltb 0 w.0) (p (system * 32 + w.0) (placed T (system * 32 + w.0))) w.2 in
    let below = w.1 in
    record {
      slot = w.0;
      is_slot = (positive w.0 both.0, omega (arith, below));
      is_so = (r (system * 32 + w.0) (placed T (system * 32 + w.0))).0 both.1;
    }
  where
    positive : (n : ℕ) → ltb 0 n ≡ true → 1 ≤ n
    positive n h = grind arith

pub none_concerned : (p : ℕ → Circuit → Bool) (P : ℕ → Circuit → Type 0) (T : List Circuit) (system : ℕ) → Reflects p P → eqb (mask_by p system T) 0 ≡ true → Concerned P T system → ⊥
none_concerned p P T system r e c =
    let a = c.is_slot in
    let k = system * 32 + c.slot in
    let n = none_below (slot_test p system T) 32 c.slot (omega (arith, a)) e in
    let b : ltb 0 c.slot ≡ true = lt-ltb 0 c.slot (omega (arith, a)) in
    let so : p k (placed T k) ≡ true = (r k (placed T k)).1 c.is_so in
    false≢true (sym n ∙ rw (b, so) refl)

-- our message for a PCM system, or none
pub group_if : (t : Config) (what : Grouped) (why : BlockType) (p : ℕ → Circuit → Bool) (P : ℕ → Circuit → Type 0) (T : List Circuit) (system : ℕ) → Reflects p P
    → GroupIf t what why P T system (group_for t what why p system T)
group_if t what why p P T system r = go (eqb (mask_by p system T) 0) refl
  where
    msg : Msg
    msg = group_message t system what why (mask_by p system T)

    go : (b : Bool) → eqb (mask_by p system T) 0 ≡ b → GroupIf t what why P T system (cond b [] (msg ∷ []))
    go true e = (λ c. absurd (none_concerned p P T system r e c), λ n. refl)
    go false e = (λ c. (msg, mask_named t what why p P T system r, refl), λ n. absurd (n (some_concerned p P T system r e)))

-- one for each
pub each_named : (t : Config) (what : Grouped) (why : BlockType) (p : ℕ → Circuit → Bool) (P : ℕ → Circuit → Type 0) (T : List Circuit) (n : ℕ) → Reflects p P
    → EachNames t what why P T n (groups_below t what why p n T)
each_named t what why p P T zero r = none
each_named t what why p P T (suc n) r = go (eqb (mask_by p n T) 0) refl (each_named t what why p P T n r)
  where
    go : (b : Bool) → eqb (mask_by p n T) 0 ≡ b → EachNames t what why P T n (groups_below t what why p n T)
        → EachNames t what why P T (suc n) (groups_below t what why p n T ++ cond b [] (group_message t n what why (mask_by p n T) ∷ []))
    go true e h = rw (append-nil (groups_below t what why p n T)) (unconcerned n (groups_below t what why p n T) h (none_concerned p P T n r e))
    go false e h =
        concerned n (groups_below t what why p n T) (group_message t n what why (mask_by p n T)) h (some_concerned p P T n r e) (mask_named t what why p P T n r)

pub groups_name : GroupsName
groups_name t what why p T = each_named t what why p (λ k x. p k x ≡ true) T t.systems (λ k x. (λ h. h, λ h. h))
