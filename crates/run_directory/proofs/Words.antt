-- Words of letters and digits.
use Rattle.std.proofs.Common.{◌≡◌, ℕ, ◌<◌, ◌≤◌, ◌⊎◌, inl, inr, Bool, true, false, ◌||◌, ◌&&◌, List, [], ◌∷◌, ◌++◌, length, take, drop, map, Option, Some, None, not, nat_le, refl, sym, ap, subst, ◌∙◌, arith, rules, codes, if◌then◌else◌}
use Rattle.std.specs.Borrow.{Bor}
use Rattle.std.specs.Option.{option_to_list}
use Rattle.std.specs.List.{list_all}
use Rattle.std.specs.Char.{is_ascii_alphanumeric}
use Rattle.std.specs.Int.{is_in_range}
use Rattle.std.specs.Str.{IsAscii, IsUtf8, bytes_eq}
use Rattle.std.proofs.lemmas.Bool.{leb-true, false≢true}
use Rattle.std.proofs.lemmas.List.Sums.{AllPass-from_list_all}
use Rattle.std.proofs.lemmas.List.Elements.{All-weaker}
use Rattle.std.proofs.lemmas.Str.Ascii.{IsAscii-from_all}
use Rattle.std.proofs.lemmas.Str.{IsUtf8-from_ascii}
use Rattle.std.proofs.lemmas.List.{map-append}
use Rattle.wasm_tree.specs.Linking.{link_name}
use Rattle.run_directory.specs.Directory.{begins_with_letter, is_module_name, module_named, bytes_of}

either : (p q : Bool) → p || q ≡ true → (p ≡ true) ⊎ (q ≡ true)
either true q e = inl refl
either false q e = inr e

second : (p q : Bool) → p && q ≡ true → q ≡ true
second true q e = e
second false q e = absurd (false≢true e)

up_to : (low high b : ℕ) → is_in_range low high b ≡ true → b ≤ high
up_to low high b e = leb-true b high (second (nat_le low b) (nat_le b high) e)

byte_small : (b : ℕ) → is_ascii_alphanumeric b ≡ true → b < 128
byte_small b e = elim (either (is_in_range 48 57 b || is_in_range 65 90 b) (is_in_range 97 122 b) e) [
  | inr h ↦ let small = up_to 97 122 b h in omega (arith, small)
  | inl f ↦ elim (either (is_in_range 48 57 b) (is_in_range 65 90 b) f) [
    | inl h ↦ let small = up_to 48 57 b h in omega (arith, small)
    | inr h ↦ let small = up_to 65 90 b h in omega (arith, small)
  ]
]

second_of_four : (p q r s : Bool) → p && q && r && s ≡ true → q ≡ true
second_of_four true true r s e = refl
second_of_four true false r s e = absurd (false≢true e)
second_of_four false q r s e = absurd (false≢true e)

if_some : {A : Type 0} (b : Bool) (a n : A) → (if b then Some a else None) ≡ Some n → (b ≡ true) × (a ≡ n)
if_some {A = A} true a n e = (refl, ap (λ (o : Option A). elim o [ None ↦ n | Some x ↦ x ]) e)
if_some {A = A} false a n e = absurd (none_some e)
  where
    none_some : {A : Type 0} {n : A} → ◌≡◌ {A = Option A} None (Some n) → ⊥
    none_some e = search rules

word_ascii : (name : List ℕ) → list_all is_ascii_alphanumeric name ≡ true → IsAscii name
word_ascii name e = IsAscii-from_all name
    (All-weaker (λ b. is_ascii_alphanumeric b ≡ true) (λ b. b < 128) byte_small name
    (AllPass-from_list_all is_ascii_alphanumeric name e))

pub name_utf8 : (export name : List ℕ) → module_named export ≡ Some name → IsUtf8 name
name_utf8 export name e =
    let both = if_some (bytes_eq (take 4 export) (codes "tab.") && is_module_name (drop 4 export)) (drop 4 export) name
    e in
    let is_name : is_module_name (drop 4 export) ≡ true =
    second (bytes_eq (take 4 export) (codes "tab.")) (is_module_name (drop 4 export)) both.0 in
    let word = second_of_four (begins_with_letter (drop 4 export)) (list_all is_ascii_alphanumeric (drop 4 export))
    (nat_le (length (drop 4 export)) 64) (not (bytes_eq (drop 4 export) link_name)) is_name in
    subst (λ (n : List ℕ). IsUtf8 n) both.1 (IsUtf8-from_ascii (drop 4 export) (word_ascii (drop 4 export) word))

-- one name more
pub name_added : {T : Type 0} (bytes : T → List ℕ) (old new : List T) (t : T) (export slice : List ℕ)
    (found : Option (Bor (List ℕ))) (name : Bor (List ℕ))
    → new ≡ old ++ t ∷ [] → slice ≡ export → bytes_of found ≡ module_named slice → found ≡ Some name
    → (IsUtf8 name.now → bytes t ≡ name.now)
    → map bytes new ≡ map bytes old ++ option_to_list (module_named export)
name_added bytes old new t export slice found name items same value is text =
    let named : module_named export ≡ Some name.now = ap module_named (sym same) ∙ sym value ∙ ap bytes_of is in
    ap (map bytes) items ∙ map-append bytes old (t ∷ [])
    ∙ ap (λ (b : List ℕ). map bytes old ++ b ∷ []) (text (name_utf8 export name.now named))
    ∙ ap (λ (o : Option (List ℕ)). map bytes old ++ option_to_list o) (sym named)
