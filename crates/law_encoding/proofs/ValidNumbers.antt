-- In valid code only constants can be too large.
use Rattle.std.proofs.Common.{map, ◌≡◌, ℕ, suc, ◌+◌, ◌*◌, ◌≤◌, ◌<◌, Bool, true, ◌&&◌, nat_lt, List, [], ◌∷◌, ◌++◌, length, Some, None, refl, sym, ap, subst, ◌∙◌, arith}
use Rattle.std.specs.Prelude.{slice_get, All}
use Rattle.std.specs.List.{list_all}
use Rattle.std.proofs.lemmas.Bool.{and_parts, lt-ltb}
use Rattle.std.proofs.lemmas.List.Elements.{All-head, All-tail}
use Rattle.wasm_tree.specs.declared.kinds.ValueType.{ValueType}
use Rattle.wasm_tree.specs.declared.instr.Instr.{Instr, Instr-F, out-Instr, map-Instr, fold_out-Instr}
use Rattle.wasm_tree.specs.declared.instr.Instr.TheOpen as layer
use Rattle.wasm_tree.specs.Validity.{Context, within, result_types, IsPlain, Types, Plain, Block, Loop, If, Leads, Empty, More}
use Rattle.wasm_code.specs.Number.{unsigned}
use Rattle.law_encoding.specs.Sizes.{total}
use Rattle.law_encoding.specs.CodeBytes.{instr_layer, bytes_in, bytes}
use Rattle.law_encoding.specs.CodeNumbers.{all_fit, numbers_layer, numbers_fit, code_numbers_fit}
use Rattle.law_encoding.specs.Fits.{max_bytes}
use Rattle.law_encoding.specs.ValidNumbers.{constants_layer, constants_fit, code_constants_fit, AreFew}
use Rattle.law_encoding.proofs.Sums.{total_map}
use Rattle.law_encoding.proofs.CodeFits.{at_numbers, both_true}
use Rattle.law_encoding.proofs.CodeLengths.{at as at_bytes}
use Rattle.law_well_formed.proofs.Places.{is_within}

pub at_constants : (i : Instr) (x : Instr-F Instr) → out-Instr i ≡ x
    → constants_fit i ≡ constants_layer (map-Instr Instr Bool constants_fit x)
unfolding constants_fit
at_constants i x q = fold_out-Instr Bool constants_layer i
    ∙ ap (λ (y : Instr-F Instr). constants_layer (map-Instr Instr Bool constants_fit y)) q

-- ---- an index of what there is

within_few : (k n : ℕ) → k < n → n ≤ max_bytes → k < max_bytes
within_few k n h l = omega (arith, h, l)

index_fits : {A : Type 0} (xs : List A) (k : ℕ) (x : A) → slice_get xs k ≡ Some x → length xs ≤ max_bytes
    → nat_lt k max_bytes ≡ true
index_fits xs k x e l = lt-ltb k max_bytes (within_few k (length xs) (is_within xs k x e) l)

all_fits : (f : ℕ → Bool) (P : ℕ → Type 0) → ((k : ℕ) → P k → f k ≡ true) → (ks : List ℕ) → All P ks
    → list_all f ks ≡ true
all_fits f P h [] a = refl
all_fits f P h (k ∷ ks) a = both_true (f k) (list_all f ks) (h k (All-head P k ks a))
    (all_fits f P h ks (All-tail P k ks a))

few_labels : (l n : ℕ) → l + (11 + 5 * n) ≤ max_bytes → n < max_bytes
few_labels l n h = omega (arith, h)

labels_few : (l n : ℕ) → l + n ≤ max_bytes → l ≤ max_bytes
labels_few l n h = omega (arith, h)

-- ---- instructions without code in them

plain_fits : (c : Context) (x : Instr-F Instr) (p r : List ValueType) → IsPlain c x p r → AreFew c
    → length c.labels + instr_layer (map-Instr Instr ℕ bytes_in x) ≤ max_bytes
    → constants_layer (map-Instr Instr Bool constants_fit x) ≡ true
    → numbers_layer (map-Instr Instr Bool numbers_fit x) ≡ true
plain_fits c layer.Unreachable p r v few l e = refl
plain_fits c (layer.Block t body) p r v few l e = absurd v
plain_fits c (layer.Loop t body) p r v few l e = absurd v
plain_fits c (layer.If t body others) p r v few l e = absurd v
plain_fits c (layer.Br k) p r v few l e = index_fits c.labels k v.0 v.2 (labels_few _ _ l)
plain_fits c (layer.BrIf k) p r v few l e = index_fits c.labels k v.0 v.1 (labels_few _ _ l)
plain_fits c (layer.BrTable ks k) p r v few l e =
    let all = labels_few (length c.labels) _ l in
    both_true _ _ (both_true _ _ (lt-ltb (length ks) max_bytes (few_labels (length c.labels) (length ks) l))
    (all_fits unsigned.fits (λ j. slice_get c.labels j ≡ Some v.0) (λ j h. index_fits c.labels j v.0 h all) ks v.3))
    (index_fits c.labels k v.0 v.2 all)
plain_fits c layer.Return p r v few l e = refl
plain_fits c (layer.Call f) p r v few l e = index_fits c.functions f v.0 v.2 few.functions
plain_fits c (layer.CallIndirect t) p r v few l e = index_fits c.types t v.0 v.2 few.types
plain_fits c layer.Drop p r v few l e = refl
plain_fits c (layer.LocalGet x) p r v few l e = index_fits c.locals x v.0 v.1 few.locals
plain_fits c (layer.LocalSet x) p r v few l e = index_fits c.locals x v.0 v.1 few.locals
plain_fits c (layer.LocalTee x) p r v few l e = index_fits c.locals x v.0 v.1 few.locals
plain_fits c (layer.GlobalGet x) p r v few l e = index_fits c.globals x v.0 v.1 few.globals
plain_fits c (layer.Load k) p r v few l e = refl
plain_fits c (layer.Store k) p r v few l e = refl
plain_fits c (layer.I32Const n) p r v few l e = e
plain_fits c (layer.I64Const n) p r v few l e = e
plain_fits c (layer.Numeric o) p r v few l e = refl

-- ---- code in a block

few_within : {c : Context} (taken : List ValueType) → AreFew c → AreFew (within taken c)
few_within taken few = record {
  types = few.types;
  functions = few.functions;
  globals = few.globals;
  locals =
      few.locals;
}

inner_bytes : (l k n m : ℕ) → l + k ≤ max_bytes → k ≡ 3 + n → m ≡ n → suc l + m ≤ max_bytes
inner_bytes l k n m h e q = omega (arith, h, e, q)

first_bytes : (l k n o m : ℕ) → l + k ≤ max_bytes → k ≡ 4 + (n + o) → m ≡ n → suc l + m ≤ max_bytes
first_bytes l k n o m h e q = omega (arith, h, e, q)

other_bytes : (l k n o m : ℕ) → l + k ≤ max_bytes → k ≡ 4 + (n + o) → m ≡ o → suc l + m ≤ max_bytes
other_bytes l k n o m h e q = omega (arith, h, e, q)

no_other_bytes : (l k n : ℕ) → l + k ≤ max_bytes → k ≡ 4 + (n + 0) → suc l + 0 ≤ max_bytes
no_other_bytes l k n h e = omega (arith, h, e)

head_bytes : (l a b : ℕ) → l + (a + b) ≤ max_bytes → l + a ≤ max_bytes
head_bytes l a b h = omega (arith, h)

rest_bytes : (l a b : ℕ) → l + (a + b) ≤ max_bytes → l + b ≤ max_bytes
rest_bytes l a b h = omega (arith, h)

bytes_mapped : (code : List Instr) → bytes code ≡ total (map bytes_in code)
unfolding bytes
bytes_mapped code = sym (total_map bytes_in code)

pub mapped_all : (f : Instr → Bool) (code : List Instr) → all_fit (map f code) ≡ list_all f code
mapped_all f [] = refl
mapped_all f (i ∷ code) = ap (λ (b : Bool). f i && b) (mapped_all f code)

constants_in : (code : List Instr) → all_fit (map constants_fit code) ≡ true → code_constants_fit code ≡ true
unfolding code_constants_fit
constants_in code e = sym (mapped_all constants_fit code) ∙ e

numbers_in : (code : List Instr) → code_numbers_fit code ≡ true → all_fit (map numbers_fit code) ≡ true
unfolding code_numbers_fit
numbers_in code e = mapped_all numbers_fit code ∙ e

mutual
  unfolding bytes code_constants_fit code_numbers_fit

  instr_fits : (c : Context) (i : Instr) (p r : List ValueType) → Types c i p r → AreFew c
      → length c.labels + bytes_in i ≤ max_bytes → constants_fit i ≡ true → numbers_fit i ≡ true
  instr_fits c i p r (Plain _ _ _ _ v) few l e =
      at_numbers i (out-Instr i) refl
      ∙ plain_fits c (out-Instr i) p r v few
      (subst (λ (n : ℕ). length c.labels + n ≤ max_bytes) (at_bytes i (out-Instr i) refl) l)
      (sym (at_constants i (out-Instr i) refl) ∙ e)
  instr_fits c i _ _ (Block _ _ t body q v) few l e =
      at_numbers i (layer.Block t body) q
      ∙ numbers_in body (code_fits (within (result_types t) c) body [] (result_types t) v
      (few_within (result_types t) few) (inner_bytes (length c.labels) _ _ _ l (at_bytes i (layer.Block t body) q)
      (bytes_mapped body))
      (constants_in body (sym (at_constants i (layer.Block t body) q) ∙ e)))
  instr_fits c i _ _ (Loop _ _ t body q v) few l e =
      at_numbers i (layer.Loop t body) q
      ∙ numbers_in body (code_fits (within [] c) body [] (result_types t) v (few_within [] few)
      (inner_bytes (length c.labels) _ _ _ l (at_bytes i (layer.Loop t body) q) (bytes_mapped body))
      (constants_in body (sym (at_constants i (layer.Loop t body) q) ∙ e)))
  instr_fits c i _ _ (If _ _ t body None q v w) few l e =
      let both = and_parts (all_fit (map constants_fit body)) true (sym (at_constants i (layer.If t body None) q) ∙ e)
      in
      at_numbers i (layer.If t body None) q
      ∙ both_true _ true
      (numbers_in body (code_fits (within (result_types t) c) body [] (result_types t) v
      (few_within (result_types t) few) (first_bytes (length c.labels) _ _ 0 _ l
      (at_bytes i (layer.If t body None) q) (bytes_mapped body)) (constants_in body both.0)))
      refl
  instr_fits c i _ _ (If _ _ t body (Some others) q v w) few l e =
      let both = and_parts (all_fit (map constants_fit body)) (all_fit (map constants_fit others))
      (sym (at_constants i (layer.If t body (Some others)) q) ∙ e) in
      let b = at_bytes i (layer.If t body (Some others)) q in
      at_numbers i (layer.If t body (Some others)) q
      ∙ both_true _ _
      (numbers_in body (code_fits (within (result_types t) c) body [] (result_types t) v
      (few_within (result_types t) few) (first_bytes (length c.labels) _ _ _ _ l b (bytes_mapped body))
      (constants_in body both.0)))
      (numbers_in others (code_fits (within (result_types t) c) others [] (result_types t) w
      (few_within (result_types t) few) (other_bytes (length c.labels) _ _ _ _ l b (bytes_mapped others))
      (constants_in others both.1)))

  pub code_fits : (c : Context) (code : List Instr) (before after : List ValueType) → Leads c code before after
      → AreFew c → length c.labels + bytes code ≤ max_bytes → code_constants_fit code ≡ true
      → code_numbers_fit code ≡ true
  code_fits c _ _ _ (Empty _ s) few l e = refl
  code_fits c _ _ _ (More _ i is below params results after t rest) few l e =
      let both = and_parts (constants_fit i) (list_all constants_fit is) e in
      both_true _ _ (instr_fits c i params results t few (head_bytes (length c.labels) (bytes_in i) _ l) both.0)
      (code_fits c is (below ++ results) after rest few (rest_bytes (length c.labels) (bytes_in i) _ l) both.1)
