-- The octets of a line, one after another.
use Rattle.std.proofs.Common.{◌≡◌, ℕ, ◌<◌, List, [], ◌∷◌, ◌++◌, length, get_or, drop, Some, None, Option, sym, refl, ap, ◌∙◌, append_assoc, arith}
use Rattle.std.proofs.lemmas.Bool.{ne_eqb}
use Rattle.explain.specs.Hex.{hex_octets, octet_front, before, onto}

onto_more : (ys : List ℕ) (x : ℕ) (o : Option (List ℕ)) → onto ys (before (Some x) o) ≡ onto (ys ++ x ∷ []) o
onto_more ys x None = refl
onto_more ys x (Some xs) = rw append_assoc

-- a line goes on with an octet, or has something else
at_octet : (xs : List ℕ) → 0 < length xs → (get_or xs 0 0 ≡ 32 → ⊥) → hex_octets xs ≡ before (octet_front xs) (hex_octets (drop 2 xs))
at_octet [] h n = absurd (omega arith)
at_octet (a ∷ []) h n = rw (ne_eqb a 32 n)
at_octet (a ∷ b ∷ xs) h n = rw (ne_eqb a 32 n)

pub past_octet : (xs ys : List ℕ) (x : ℕ) → 0 < length xs → (get_or xs 0 0 ≡ 32 → ⊥) → octet_front xs ≡ Some x →
    onto (ys ++ x ∷ []) (hex_octets (drop 2 xs)) ≡ onto ys (hex_octets xs)
past_octet xs ys x h n e =
    let p : hex_octets xs ≡ before (Some x) (hex_octets (drop 2 xs)) = at_octet xs h n ∙ rw e in
    sym (ap (onto ys) p ∙ onto_more ys x (hex_octets (drop 2 xs)))
