-- Document 01, "Values": the three syntaxes, by their numbers in K 1. Text is compared with #102's blanks (document 02).
use Rattle.std.specs.Prelude.{ℕ, ◌+◌, ◌-◌, Bool, true, false, ◌&&◌, not, cond, List, [], ◌∷◌, map, leb, ltb, eqb, length, drop, ℤ, pos, neg_ℤ, Option, Some, None}
use Rattle.std.specs.Int.Signed.{lt_z}
use Rattle.rules.specs.Lists.{all, is_empty}
use Rattle.rules.specs.Sheet.{Bytes, Column, numeral, strip}
use Rattle.std.specs.declared.cmp.Ordering.{Ordering}
use Rattle.std.specs.declared.cmp.Ordering.TheVariants.{Less, Equal, Greater}

abbrev pub octets : ℕ
octets = 0

abbrev pub text : ℕ
text = 1

abbrev pub integer : ℕ
integer = 2

-- ---- integers

-- the number that a value of syntax 2 writes, none where it writes none
abbrev pub Integer : Type 0
Integer = Option ℤ

-- "decimal from −9223372036854775808 to 9223372036854775807": -m, where m is not 0 ("no −0")
abbrev pub negative : Column → Integer
negative None = None
negative (Some m) = cond (eqb m 0) None (cond (leb m 9223372036854775808) (Some (neg_ℤ (pos m))) None)

abbrev pub positive : Column → Integer
positive None = None
positive (Some m) = cond (ltb m 9223372036854775808) (Some (pos m)) None

-- "a minus sign where negative (byte 45), no leading zero"
unfoldable pub integer_of : Bytes → Integer
integer_of [] = None
integer_of (b ∷ bs) = cond (eqb b 45) (negative (numeral bs)) (positive (numeral (b ∷ bs)))

abbrev pub is_integer : Integer → Bool
is_integer (Some z) = true
is_integer None = false

-- ---- text

-- "after folding to small letters"
unfoldable pub small : ℕ → ℕ
small b = cond (leb 65 b) (cond (leb b 90) (b + 32) b) b

unfoldable pub printable : ℕ → Bool
printable b = leb 32 b && leb b 126

-- ---- blanks in text: byte 32

abbrev pub blank_first : Bytes → Bool
blank_first [] = false
blank_first (b ∷ bs) = eqb b 32

-- #102: "take a run inside as one"
unfoldable pub shorten : Bytes → Bytes
shorten [] = []
shorten (b ∷ bs) = cond (eqb b 32 && blank_first bs) (shorten bs) (b ∷ shorten bs)

-- #102: "drop blanks at both ends": those at the end; `strip` drops those at the beginning
unfoldable pub trim : Bytes → Bytes
trim [] = []
trim (b ∷ bs) = cond (eqb b 32 && is_empty (trim bs)) [] (b ∷ trim bs)

-- #102: "a value of nothing but blanks counts as one blank"
abbrev pub or_blank : Bytes → Bytes
or_blank [] = 32 ∷ []
or_blank (b ∷ bs) = b ∷ bs

-- #102: a text with the blanks that count
unfoldable pub tidied : Bytes → Bytes
tidied v = or_blank (shorten (trim (strip v)))

-- ---- what a syntax allows

unfoldable pub sized : Bytes → Bool
sized v = leb 1 (length v) && leb (length v) 64

unfoldable pub fits : ℕ → Bytes → Bool
fits s v =
    cond (eqb s octets) (sized v)
    (cond (eqb s text) (sized v && all printable v)
    (is_integer (integer_of v)))

-- ---- equality

-- text without case, others as they stand
unfoldable pub folded : ℕ → Bytes → Bytes
folded s v = cond (eqb s text) (map small v) v

-- the form by which values of a syntax are equal and ordered: text without case and with #102's blanks, others as they stand
unfoldable pub normal : ℕ → Bytes → Bytes
normal s v = folded s (cond (eqb s text) (tidied v) v)

-- byte for byte
unfoldable pub identical : Bytes → Bytes → Bool
identical [] [] = true
identical [] (b ∷ bs) = false
identical (a ∷ as') [] = false
identical (a ∷ as') (b ∷ bs) = eqb a b && identical as' bs

-- two values that the syntax allows are equal
unfoldable pub same : ℕ → Bytes → Bytes → Bool
same s v w = identical (normal s v) (normal s w)

-- ---- order

-- octets have "no order"
unfoldable pub ordered : ℕ → Bool
ordered s = not (eqb s octets)

abbrev pub orderℕ : ℕ → ℕ → Ordering → Ordering
orderℕ a b next = cond (ltb a b) Less (cond (ltb b a) Greater next)

abbrev pub orderℤ : ℤ → ℤ → Ordering
orderℤ a b = cond (lt_z a b) Less (cond (lt_z b a) Greater Equal)

-- "by byte .. a prefix first"
unfoldable pub order_bytes : Bytes → Bytes → Ordering
order_bytes [] [] = Equal
order_bytes [] (b ∷ bs) = Less
order_bytes (a ∷ as') [] = Greater
order_bytes (a ∷ as') (b ∷ bs) = orderℕ a b (order_bytes as' bs)

-- "order is numeric"
abbrev pub order_integers : Integer → Integer → Ordering
order_integers (Some a) (Some b) = orderℤ a b
order_integers (Some a) None = Equal
order_integers None y = Equal

-- how two values that the syntax allows compare
unfoldable pub order : ℕ → Bytes → Bytes → Ordering
order s v w = cond (eqb s integer) (order_integers (integer_of v) (integer_of w)) (order_bytes (normal s v) (normal s w))

-- ---- substrings

-- "substrings are for text only"
unfoldable pub searchable : ℕ → Bool
searchable s = eqb s text

-- K 28: A is the place (0 initial, 1 any, 2 final)
pub record Piece : Type 0 where
  pub place : ℕ
  pub bytes : Bytes

-- `v` begins with `p`
unfoldable pub begins : Bytes → Bytes → Bool
begins v [] = true
begins [] (b ∷ bs) = false
begins (a ∷ as') (b ∷ bs) = eqb a b && begins as' bs

-- `p` stands at the end of `v`
unfoldable pub ends : Bytes → Bytes → Bool
ends v p = leb (length p) (length v) && identical (drop (length v - length p) v) p

-- a place in a value or a list, or none
abbrev pub Found : Type 0
Found = Option ℕ

-- the end of the first place of `p` in `v`, whose first byte is number `i`
unfoldable pub find : Bytes → Bytes → ℕ → Found
find p [] i = cond (begins [] p) (Some (i + length p)) None
find p (x ∷ xs) i = cond (begins (x ∷ xs) p) (Some (i + length p)) (find p xs (i + 1))

-- how many bytes of `v` are used up to the end of a piece: "an initial one at the value's beginning, a final one at its end"
unfoldable pub used : ℕ → Bytes → Bytes → Found
used place p v =
    cond (eqb place 0) (cond (begins v p) (Some (length p)) None)
    (cond (eqb place 1) (find p v 0)
    (cond (ends v p) (Some (length v)) None))

abbrev pub by_found : Found → (ℕ → Bool) → Bool
by_found (Some i) next = next i
by_found None next = false

-- "pieces appear in order without overlap": each at the first place in what the pieces before it left
unfoldable pub matches : List Piece → Bytes → Bool
matches [] v = true
matches (p ∷ ps) v = by_found (used p.place p.bytes v) (λ n. matches ps (drop n v))

-- #102: "a piece only has its runs shortened": it keeps a blank at its ends
unfoldable pub normal_piece : ℕ → Bytes → Bytes
normal_piece s p = folded s (cond (eqb s text) (shorten p) p)

-- "without case"; #102: "in substrings the stored value is treated so", as in equality
unfoldable pub contains : ℕ → List Piece → Bytes → Bool
contains s ps v = matches (map (λ p. record { place = p.place; bytes = normal_piece s p.bytes }) ps) (normal s v)
