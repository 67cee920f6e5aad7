-- What holds of two ends that are newly opened.
use Rattle.std.proofs.Common.{◌≡◌, ℕ, ◌+◌, ◌*◌, ◌/◌, ◌%◌, ◌^◌, ◌<◌, ◌≤◌, Bool, true, false, not, eqb, ltb, leb, List, [], length, get_or, Ok, sym, refl, ap, ◌∙◌, ⊎_elim, subst, zero-add, arith}
use Rattle.std.proofs.lemmas.List.FromFn.{get_or-map-range_with_len, length-map-range_with_len}
use Rattle.std.proofs.lemmas.List.Folds.{list_all_at}
use Rattle.std.proofs.lemmas.Bool.{cases_lt, cases_Bool, false≢true, eqb-true, leb-true, not-false, and_parts, ltb-false}
use Rattle.status.specs.declared.cic.Cic.{Cic}
use Rattle.circuit.specs.Circuits.{fresh, vacant, is_engaged, is_group, is_open}
use Rattle.refusal.specs.declared.reasons.Refusal.TheVariants.{Opening, Places}
use Rattle.supervision.specs.Opening.{is_equipment, are_equipment, fits_trunk, opening, equipped_at, open_table, open_set}
use Rattle.supervision.specs.Trunks.{placed}
use Rattle.supervision.proofs.Allowing.{past}
use Rattle.supervision.proofs.Fresh.{open_sound, open_fresh, open_set_lem}
use Rattle.supervision.proofs.Accepted.{equipped_inside}
use Rattle.agreement.specs.Runs.{trunk, fresh_state}
use Rattle.agreement.proofs.Ends.{End, Inv}
use Rattle.agreement.proofs.Laws.{Wait, waiting}
use Rattle.agreement.proofs.Linking.{Link}
use Rattle.agreement.proofs.Standing.{Fitting, Standing}

abbrev pub circuits : List ℕ → ℕ → Bool
circuits ws k = (placed (open_table ws) k).equipped

open_length : (ws : List ℕ) → length (open_table ws) ≡ length ws * 32
open_length ws = length-map-range_with_len (λ j. fresh (equipped_at ws j)) 0 (length ws * 32)

no_slot : (ws : List ℕ) (k : ℕ) → are_equipment ws ≡ true → circuits ws k ≡ true → 0 < k % 32
no_slot ws k q e = ⊎_elim
    (λ (l : 0 < k % 32). l)
    (λ (l : k % 32 ≤ 0).
    let z : k % 32 ≡ 0 = omega arith in
    let n = open_length ws in
    let inside = equipped_inside (open_table ws) k e in
    let i : k < length ws * 32 = omega (arith, inside, n) in
    let here : placed (open_table ws) k ≡ fresh (equipped_at ws k) = get_or-map-range_with_len (λ j. fresh (equipped_at ws j)) 0 (length ws * 32) k k vacant i (zero-add k) in
    let is_one : equipped_at ws k ≡ true = sym (ap (λ c. c.equipped) here) ∙ e in
    let w = get_or ws (k / 32) 0 in
    let odd : w / 2 ^ 0 % 2 ≡ 1 = rw z at (eqb-true (w / 2 ^ (k % 32) % 2) 1 is_one) in
    let j : k / 32 < length ws = omega (arith, i) in
    let good : is_equipment w ≡ true = ⊎_elim (λ (g : is_equipment w ≡ true). g) (λ (g : is_equipment w ≡ false). absurd (false≢true (sym (list_all_at is_equipment ws (k / 32) 0 j g) ∙ q))) (cases_Bool (is_equipment w)) in
    let even : w % 2 ≡ 0 = eqb-true (w % 2) 0 (and_parts (eqb (w % 2) 0) _ good).0 in
    absurd (both w odd even))
    (cases_lt 0 (k % 32))
  where
    both : (w : ℕ) → w / 2 ^ 0 % 2 ≡ 1 → w % 2 ≡ 0 → ⊥
    both w h g = omega (arith, h, g)

pub fitting : (room : ℕ) (first : Cic) (ws : List ℕ) (h : Bool) → opening room first ws h (length ws * 32) ≡ Ok (trunk first ws h) → Fitting (trunk first ws h) (circuits ws)
fitting room first ws h e =
    let fits : fits_trunk first.0 ws (length ws * 32) ≡ true = not-false (fits_trunk first.0 ws (length ws * 32)) (past (not (fits_trunk first.0 ws (length ws * 32))) Opening _ (trunk first ws h) e).0 in
    let a = and_parts (eqb (first.0 % 32) 0) _ fits in
    let b = and_parts (leb 1 (length ws)) _ a.1 in
    let c = and_parts (leb (length ws) 16) _ b.1 in
    let d = and_parts (leb (first.0 + length ws * 32) 4096) _ c.1 in
    let g = and_parts (eqb (length ws * 32) (length ws * 32)) (are_equipment ws) d.1 in
    record {
      slots = λ k q. no_slot ws k g.1 q;
      inside = λ k q. let l = equipped_inside (open_table ws) k q in let n = open_length ws in omega (arith, l, n);
      last = leb-true (first.0 + length ws * 32) 4096 d.0;
    }

fresh_standing : (first : Cic) (ws : List ℕ) (h : Bool) → Standing (trunk first ws h) (circuits ws) (open_table ws)
fresh_standing first ws h = record {
  size = open_length ws;
  equipment = λ k. refl;
  sound = open_sound ws;
  empty = λ k e. open_fresh ws k ∙ ap fresh e;
  whole = ((λ _. false), λ k e. ap (λ c. is_group c.reset) (open_fresh ws k));
}

fresh_link : (b : Bool) → Link (fresh b) (fresh b) [] []
fresh_link b = record {
  told = λ why. search arith;
  back = λ why. search arith;
  owes = λ x h. absurd (false≢true (sym (no_wait x) ∙ h));
  owed = λ x h. absurd (false≢true (sym (no_wait x) ∙ h));
}
  where
    no_wait : (x : Wait) → waiting x (fresh b) ≡ false
    no_wait x = grind arith

fresh_end : (room : ℕ) (first : Cic) (ws : List ℕ) (h : Bool) → length (open_table ws) ≤ room → End (trunk first ws h) (circuits ws) (fresh_state room ws)
fresh_end room first ws h l = record {
  standing = fresh_standing first ws h;
  room = let e : length (open_set room (open_table ws)) ≡ room = length-map-range_with_len (λ k. is_open (placed (open_table ws) k)) 0 room in omega (arith, e, l);
  set = open_set_lem room (open_table ws) l;
  legible = tt;
  turns = λ k i. sym (ap (λ c. is_engaged c) (open_fresh ws k));
}

pub fresh_inv : (room room' : ℕ) (first : Cic) (ws : List ℕ) (x y : Bool) → length (open_table ws) ≤ room → length (open_table ws) ≤ room'
    → Inv first ws x y (circuits ws) (fresh_state room ws) (fresh_state room' ws)
fresh_inv room room' first ws x y l l' = record {
  end_a = fresh_end room first ws x l;
  end_b = fresh_end room' first ws y l';
  out = tt;
  into = tt;
  link = λ k e. subst (λ c. Link c c [] []) (sym (open_fresh ws k)) (fresh_link (circuits ws k));
}

-- a policy that opening accepts takes the whole table
pub takes_all : (room : ℕ) (first : Cic) (ws : List ℕ) (h : Bool) → opening room first ws h (length ws * 32) ≡ Ok (trunk first ws h) → length (open_table ws) ≤ room
takes_all room first ws h e =
    let a = past (not (fits_trunk first.0 ws (length ws * 32))) Opening _ (trunk first ws h) e in
    let b = past (ltb room (length ws * 32)) Places _ (trunk first ws h) a.1 in
    let l : length ws * 32 ≤ room = ltb-false room (length ws * 32) b.0 in
    let n = open_length ws in
    omega (arith, l, n)
