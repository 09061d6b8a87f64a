-- How formats are put together.
use Rattle.std.specs.Prelude.{ℕ, zero, suc, ◌^◌, Bool, true, ◌&&◌, List, [], ◌∷◌, ◌++◌, length, take, drop, Result, Ok, Err, nat_lt, nat_le, ◌==◌, if◌then◌else◌}
use Rattle.std.specs.List.{flat_map, list_all}
use Rattle.std.specs.Str.{is_utf8}
use Rattle.wasm_tree.specs.declared.fault.WFault.{WFault}
use Rattle.wasm_tree.specs.declared.fault.WFault.TheVariants.{Malformed}
use Rattle.wasm_tree.specs.Format.{Format, Reading, ◌>>=◌, skip}
use Rattle.wasm_code.specs.Number.{unsigned}

-- a byte that has to stand there, before a part or behind it
infixr 40 ◌▸◌
abbrev pub ◌▸◌ : {A : Type 0} → ℕ → Format A → Format A
byte ▸ p = record {
  encoding = λ x. byte ∷ p.encoding x;
  reading = λ bytes. skip byte bytes >>= λ s. p.reading s.1;
  fits = p.fits;
}

infixl 42 ◌◂◌
abbrev pub ◌◂◌ : {A : Type 0} → Format A → ℕ → Format A
p ◂ byte = record {
  encoding = λ x. p.encoding x ++ byte ∷ [];
  reading = λ bytes. p.reading bytes >>= λ x. skip byte x.1 >>= λ s. Ok (x.0, s.1);
  fits = p.fits;
}

-- one part and then another
infixr 40 ◌·◌
abbrev pub ◌·◌ : {A B : Type 0} → Format A → Format B → Format (A × B)
p · q = record {
  encoding = λ x. p.encoding x.0 ++ q.encoding x.1;
  reading = λ bytes. p.reading bytes >>= λ x. q.reading x.1 >>= λ y. Ok ((x.0, y.0), y.1);
  fits = λ x. p.fits x.0 && q.fits x.1;
}

-- the same bytes, seen as another value
abbrev pub as_value : {A B : Type 0} → (A → B) → (B → A) → Format A → Format B
as_value make part p = record {
  encoding = λ y. p.encoding (part y);
  reading = λ bytes. p.reading bytes >>= λ x. Ok (make x.0, x.1);
  fits = λ y. p.fits (part y);
}

-- values that pass a test
abbrev pub that : {A : Type 0} → (A → Bool) → Format A → Format A
that test p = record {
  encoding = p.encoding;
  reading = λ bytes. p.reading bytes >>= λ x. if test x.0 then Ok x else Err Malformed;
  fits = λ x. p.fits x && test x;
}

unfoldable pub many : {A : Type 0} → Format A → (count : ℕ) → List ℕ → Reading (List A)
many p zero bytes = Ok ([], bytes)
many p (suc count) bytes = p.reading bytes >>= λ x. many p count x.1 >>= λ xs. Ok (x.0 ∷ xs.0, xs.1)

-- how many, and then each (Core 1.0, section 5.1.3)
abbrev pub vector : {A : Type 0} → Format A → Format (List A)
vector p = record {
  encoding = λ xs. unsigned.encoding (length xs) ++ flat_map p.encoding xs;
  reading = λ bytes. unsigned.reading bytes >>= λ n. many p n.0 n.1;
  fits = λ xs. nat_lt (length xs) (2 ^ 32) && list_all p.fits xs;
}

-- the same, of at least one
abbrev pub positive : ℕ → List ℕ → Reading ℕ
positive zero bytes = Err Malformed
positive (suc n) bytes = Ok (suc n, bytes)

abbrev pub entries : {A : Type 0} → Format A → Format (List A)
entries p = record {
  encoding = (vector p).encoding;
  reading = λ bytes. unsigned.reading bytes >>= λ n. positive n.0 n.1 >>= λ m. many p m.0 m.1;
  fits = λ xs. nat_lt 0 (length xs) && (vector p).fits xs;
}

-- the bytes behind a part that is stated to take this many of them: what is left of it is nothing,
-- and all are there
abbrev pub close_part : (size : ℕ) (bytes left : List ℕ) → Result (List ℕ) WFault
close_part size bytes left =
    if (length left == 0) && nat_le size (length bytes) then Ok (drop size bytes) else Err Malformed

-- a part behind the number of its bytes. Bytes past that number count as missing
abbrev pub with_size : {A : Type 0} → Format A → Format A
with_size p = record {
  encoding = λ x. unsigned.encoding (length (p.encoding x)) ++ p.encoding x;
  reading = λ bytes.
      unsigned.reading bytes >>= λ n.
      p.reading (take n.0 n.1) >>= λ x.
      close_part n.0 n.1 x.1 >>= λ rest.
      Ok (x.0, rest);
  fits = λ x. p.fits x && nat_lt (length (p.encoding x)) (2 ^ 32);
}

-- all the bytes that there are
abbrev pub bytes_left : Format (List ℕ)
bytes_left = record {
  encoding = λ bytes. bytes;
  reading = λ bytes. Ok (bytes, []);
  fits = λ bytes. list_all (λ b. nat_lt b 256) bytes;
}

-- a section, which is left out if it has no entry (Core 1.0, section 5.5.2)
abbrev pub section_encoding : {A : Type 0} → (number : ℕ) → Format A → List A → List ℕ
section_encoding number p [] = []
section_encoding number p (x ∷ xs) = number ∷ (with_size (entries p)).encoding (x ∷ xs)

abbrev pub section_reading : {A : Type 0} → (number : ℕ) → Format A → List ℕ → Reading (List A)
section_reading number p [] = Ok ([], [])
section_reading number p (b ∷ bytes) =
    if b == number then (with_size (entries p)).reading bytes else Ok ([], b ∷ bytes)

abbrev pub section_fits : {A : Type 0} → Format A → List A → Bool
section_fits p [] = true
section_fits p (x ∷ xs) = (with_size (entries p)).fits (x ∷ xs)

abbrev pub section : {A : Type 0} → (number : ℕ) → Format A → Format (List A)
section number p = record {
  encoding = section_encoding number p;
  reading = section_reading number p;
  fits = section_fits p;
}

-- a name in UTF-8 (Core 1.0, section 5.2.4)
unfoldable pub name : Format (List ℕ)
name = that is_utf8 (with_size bytes_left)
