-- How a byte is shown, by its kind.
use Rattle.std.proofs.Common.{◌≡◌, ℕ, ◌-◌, ◌/◌, ◌%◌, ◌==◌, ◌<◌, ◌≤◌, Bool, true, List, [], ◌∷◌, ◌++◌, length, take, get_or, ◌+◌, replicate, Result, Ok, Err, OnOk, is_ok, if◌then◌else◌, refl, sym, ap, subst, ◌∙◌, ◌^◌, false, nat_le, arith}
use Rattle.std.specs.Fmt.{digit_glyph, digits, format_spec, padded_integral}
use Rattle.std.proofs.lemmas.Bool.{and_parts, leb-true, ne_eqb}
use Rattle.std.proofs.lemmas.Fmt.{hex_byte}
use Rattle.std.proofs.lemmas.List.Sums.{fold_more}
use Rattle.show_refusals.specs.Layout.{cell, is_printable, put, show_source}

pub tab_cell : (column byte : ℕ) → byte ≡ 9 → cell column byte ≡ replicate (8 - column % 8) 32
unfolding cell
tab_cell column byte e = subst (λ (b : ℕ). cell column b ≡ replicate (8 - column % 8) 32) (sym e) refl

pub plain_cell : (column byte : ℕ) → (byte == 9) ≡ false → is_printable byte ≡ true → cell column byte ≡ byte ∷ []
unfolding cell
plain_cell column byte is_other is_plain =
    ap (λ (t : Bool). if t then replicate (8 - column % 8) 32 else if is_printable byte then byte ∷ [] else 92 ∷ 120
    ∷ digit_glyph true (byte / 16) ∷ digit_glyph true (byte % 16) ∷ []) is_other
    ∙ ap (λ (t : Bool). if t then byte ∷ [] else 92 ∷ 120 ∷ digit_glyph true (byte / 16) ∷ digit_glyph true (byte % 16)
    ∷ []) is_plain

pub coded_cell : (column byte : ℕ) → (byte == 9) ≡ false → is_printable byte ≡ false
    → cell column byte ≡ 92 ∷ 120 ∷ digit_glyph true (byte / 16) ∷ digit_glyph true (byte % 16) ∷ []
unfolding cell
coded_cell column byte is_other is_coded =
    ap (λ (t : Bool). if t then replicate (8 - column % 8) 32 else if is_printable byte then byte ∷ [] else 92 ∷ 120
    ∷ digit_glyph true (byte / 16) ∷ digit_glyph true (byte % 16) ∷ []) is_other
    ∙ ap (λ (t : Bool). if t then byte ∷ [] else 92 ∷ 120 ∷ digit_glyph true (byte / 16) ∷ digit_glyph true (byte % 16)
    ∷ []) is_coded

-- a text with one byte more

pub tab_put : {T E : Type 0} (r : Result T E) (text new : List ℕ) (len byte : ℕ) → len ≡ length text → byte ≡ 9
    → OnOk r (new ≡ text ++ replicate (8 - len % 8) 32) → OnOk r (new ≡ put text byte)
tab_put r text new len byte e is =
    subst (λ (t : List ℕ). OnOk r (new ≡ t))
    (ap (λ (n : ℕ). text ++ replicate (8 - n % 8) 32) e
    ∙ ap (λ (cs : List ℕ). text ++ cs) (sym (tab_cell (length text) byte is)))

printable_bound : (byte : ℕ) → is_printable byte ≡ true → byte < 128
printable_bound byte h = let b : byte ≤ 126 = leb-true byte 126 (and_parts (nat_le 32 byte) (nat_le byte 126) h).1 in
    omega (arith, b)

pub plain_put : {T E : Type 0} (r : Result T E) (text new encoded : List ℕ) (byte : ℕ) → (byte ≡ 9 → ⊥)
    → is_printable byte ≡ true → (byte < 128 → encoded ≡ byte ∷ []) → new ≡ (if is_ok r then text ++ encoded else text)
    → OnOk r (new ≡ put text byte)
plain_put (Ok x) text new encoded byte is_other is_plain ascii h =
    h ∙ ap (λ (cs : List ℕ). text ++ cs) (ascii (printable_bound byte is_plain)
    ∙ sym (plain_cell (length text) byte (ne_eqb byte 9 is_other) is_plain))
plain_put (Err e) text new encoded byte is_other is_plain ascii h = tt

pub coded_put : {T E : Type 0} (r : Result T E) (text new : List ℕ) (byte : ℕ) → byte < 256 → (byte ≡ 9 → ⊥)
    → is_printable byte ≡ false
    → OnOk r (new ≡ text ++ (92 ∷ 120 ∷ padded_integral (format_spec 32 0 4 2 (2 ^ 64 - 1)) false []
    (digits 16 true byte))) → OnOk r (new ≡ put text byte)
coded_put r text new byte bound is_other is_coded =
    subst (λ (t : List ℕ). OnOk r (new ≡ t))
    (ap (λ (cs : List ℕ). text ++ (92 ∷ 120 ∷ cs)) (hex_byte true byte bound)
    ∙ ap (λ (cs : List ℕ). text ++ cs) (sym (coded_cell (length text) byte (ne_eqb byte 9 is_other) is_coded)))

pub shown_more : (front bytes : List ℕ) (k : ℕ) → k < length bytes
    → show_source front (take (k + 1) bytes) ≡ put (show_source front (take k bytes)) (get_or bytes k 0)
shown_more front bytes k h = fold_more put front bytes k 0 h
