-- What an instruction takes and gives is its change, where the code inside it fits.
use Rattle.std.proofs.Common.{◌≡◌, ◌<◌, ℕ, List, [], ◌∷◌, ◌++◌, Option, Some, None, length, refl, sym, subst, ◌∙◌, append_assoc, arith}
use Rattle.std.specs.Prelude.{slice_get, All}
use Rattle.std.specs.Option.{option_map, option_and_then}
use Rattle.std.proofs.lemmas.List.{append-nil}
use Rattle.std.proofs.lemmas.Option.{slice_get_within}
use Rattle.wasm_tree.specs.declared.kinds.ValueType.{ValueType}
use Rattle.wasm_tree.specs.declared.kinds.ValueType.TheVariants.{I32, I64}
use Rattle.wasm_tree.specs.declared.instr.Instr.{Instr, out-Instr}
use Rattle.wasm_tree.specs.declared.instr.Instr.TheOpen as layer
use Rattle.wasm_tree.specs.Validity.{Context, IsPlain, Types, Plain, Block, Loop, If, result_types}
use Rattle.wasm_valid.specs.Typing.{Change, Exchanges, Leaves, Rule, MayRule, change, call_change, called_slot, CodeFits}

-- ---- what is looked up

may_map : {X : Type 0} (f : X → Change) (o : Option X) (p r : List ValueType) → MayRule (option_map f o) p r → (x : X)
    × (o ≡ Some x) × Rule (f x) p r
may_map f None p r h = absurd h
may_map f (Some x) p r h = (x, refl, h)

map_may : {X : Type 0} (f : X → Change) (o : Option X) (x : X) (p r : List ValueType) → o ≡ Some x → Rule (f x) p r
    → MayRule (option_map f o) p r
map_may {X} f o x p r e h = subst (λ (y : Option X). MayRule (option_map f y) p r) (sym e) h

may_then : {X : Type 0} (f : X → Option Change) (o : Option X) (p r : List ValueType)
    → MayRule (option_and_then f o) p r → (x : X) × (o ≡ Some x) × MayRule (f x) p r
may_then f None p r h = absurd h
may_then f (Some x) p r h = (x, refl, h)

then_may : {X : Type 0} (f : X → Option Change) (o : Option X) (x : X) (p r : List ValueType) → o ≡ Some x
    → MayRule (f x) p r → MayRule (option_and_then f o) p r
then_may {X} f o x p r e h = subst (λ (y : Option X). MayRule (option_and_then f y) p r) (sym e) h

first_of : {X : Type 0} (xs : List X) → 0 < length xs → (x : X) × (slice_get xs 0 ≡ Some x)
first_of [] h = absurd (omega arith)
first_of (x ∷ xs) h = (x, refl)

some_first : {X : Type 0} (xs : List X) (x : X) → slice_get xs 0 ≡ Some x → 0 < length xs
some_first xs x e = slice_get_within xs 0 x e

-- ---- instructions without code inside them

same_labels : (c : Context) (ls : List ℕ) (default : ℕ) (taken : List ValueType)
    → slice_get c.labels default ≡ Some taken → All (λ l. slice_get c.labels l ≡ Some taken) ls
    → All (λ l. slice_get c.labels l ≡ slice_get c.labels default) ls
same_labels c ls default taken e h = λ k d lt. h k d lt ∙ sym e

labels_same : (c : Context) (ls : List ℕ) (default : ℕ) (taken : List ValueType)
    → slice_get c.labels default ≡ Some taken → All (λ l. slice_get c.labels l ≡ slice_get c.labels default) ls
    → All (λ l. slice_get c.labels l ≡ Some taken) ls
labels_same c ls default taken e h = λ k d lt. h k d lt ∙ e

plain_changes : (c : Context) (i : layer.Instr-F Instr) (p r : List ValueType) → IsPlain c i p r → CodeFits c i
    × MayRule (change c i) p r
plain_changes c layer.Unreachable p r h = (tt, (p, sym (append-nil p)))
plain_changes c (layer.Block t body) p r h = absurd h
plain_changes c (layer.Loop t body) p r h = absurd h
plain_changes c (layer.If t body otherwise) p r h = absurd h
plain_changes c (layer.Br l) p r (taken, lower, e, q) =
    (tt, map_may (λ x. Leaves x) (slice_get c.labels l) taken p r e (lower, q))
plain_changes c (layer.BrIf l) p r (taken, e, q) =
    (tt, map_may (λ (x : List ValueType). Exchanges (x ++ I32 ∷ []) x) (slice_get c.labels l) taken p r e q)
plain_changes c (layer.BrTable ls default) p r (taken, lower, e, all, q) = (
  same_labels c ls default taken e all,
  map_may (λ (x : List ValueType). Leaves (x ++ I32 ∷ [])) (slice_get c.labels default) taken p r e
      (lower, q ∙ append_assoc lower taken (I32 ∷ [])),
)
plain_changes c layer.Return p r h = (tt, h)
plain_changes c (layer.Call f) p r (i, t, e, g, q) = (
  tt,
  then_may (λ x. option_map call_change (slice_get c.types x)) (slice_get c.functions f) i p r e
      (map_may call_change (slice_get c.types i) t p r g q),
)
plain_changes c (layer.CallIndirect i) p r (t, some, g, q) =
    let one = first_of c.tables some in (
      tt,
      then_may (λ _. option_map called_slot (slice_get c.types i)) (slice_get c.tables 0) one.0 p r one.1
          (map_may called_slot (slice_get c.types i) t p r g q),
    )
plain_changes c layer.Drop p r h = (tt, h)
plain_changes c (layer.LocalGet x) p r (t, e, q) =
    (tt, map_may (λ y. Exchanges [] (y ∷ [])) (slice_get c.locals x) t p r e q)
plain_changes c (layer.LocalSet x) p r (t, e, q) =
    (tt, map_may (λ y. Exchanges (y ∷ []) []) (slice_get c.locals x) t p r e q)
plain_changes c (layer.LocalTee x) p r (t, e, q) =
    (tt, map_may (λ y. Exchanges (y ∷ []) (y ∷ [])) (slice_get c.locals x) t p r e q)
plain_changes c (layer.GlobalGet g) p r (t, e, q) =
    (tt, map_may (λ y. Exchanges [] (y ∷ [])) (slice_get c.globals g) t p r e q)
plain_changes c (layer.Load kind) p r (some, q) =
    let one = first_of c.memories some in
    (tt, map_may (λ _. Exchanges (I32 ∷ []) (I64 ∷ [])) (slice_get c.memories 0) one.0 p r one.1 q)
plain_changes c (layer.Store width) p r (some, q) =
    let one = first_of c.memories some in
    (tt, map_may (λ _. Exchanges (I32 ∷ I64 ∷ []) []) (slice_get c.memories 0) one.0 p r one.1 q)
plain_changes c (layer.I32Const n) p r h = (tt, h)
plain_changes c (layer.I64Const n) p r h = (tt, h)
plain_changes c (layer.Numeric o) p r h = (tt, h)

pub types_change : (c : Context) (i : Instr) (p r : List ValueType) → Types c i p r → CodeFits c (out-Instr i)
    × MayRule (change c (out-Instr i)) p r
types_change c i p r (Plain _ _ _ _ h) = plain_changes c (out-Instr i) p r h
types_change c i p r (Block _ _ t body e h) =
    subst (λ (x : layer.Instr-F Instr). CodeFits c x × MayRule (change c x) [] (result_types t)) (sym e)
    (h, (refl, refl))
types_change c i p r (Loop _ _ t body e h) =
    subst (λ (x : layer.Instr-F Instr). CodeFits c x × MayRule (change c x) [] (result_types t)) (sym e)
    (h, (refl, refl))
types_change c i p r (If _ _ t body otherwise e h g) =
    subst (λ (x : layer.Instr-F Instr). CodeFits c x × MayRule (change c x) (I32 ∷ []) (result_types t)) (sym e)
    ((h, g), (refl, refl))

-- ---- and back

typed_as : (c : Context) (i : Instr) (p r ps rs : List ValueType) → p ≡ ps → r ≡ rs → Types c i ps rs → Types c i p r
typed_as c i p r ps rs e f h = subst (λ (x : List ValueType). Types c i x r) (sym e)
    (subst (λ (x : List ValueType). Types c i ps x) (sym f) h)

plainly : (c : Context) (i : Instr) (l : layer.Instr-F Instr) (p r : List ValueType) → out-Instr i ≡ l → IsPlain c l p r
    → Types c i p r
plainly c i l p r e h = Plain c i p r (subst (λ (x : layer.Instr-F Instr). IsPlain c x p r) (sym e) h)

change_at : (c : Context) (i : Instr) (l : layer.Instr-F Instr) (p r : List ValueType) → out-Instr i ≡ l → CodeFits c l
    → MayRule (change c l) p r → Types c i p r
change_at c i layer.Unreachable p r e f h = plainly c i layer.Unreachable p r e tt
change_at c i (layer.Block t body) p r e f (q, s) = typed_as c i p r [] (result_types t) q s (Block c i t body e f)
change_at c i (layer.Loop t body) p r e f (q, s) = typed_as c i p r [] (result_types t) q s (Loop c i t body e f)
change_at c i (layer.If t body otherwise) p r e f (q, s) =
    typed_as c i p r (I32 ∷ []) (result_types t) q s (If c i t body otherwise e f.0 f.1)
change_at c i (layer.Br l) p r e f h =
    let m = may_map (λ x. Leaves x) (slice_get c.labels l) p r h in
    plainly c i (layer.Br l) p r e (m.0, m.2.0, m.1, m.2.1)
change_at c i (layer.BrIf l) p r e f h =
    plainly c i (layer.BrIf l) p r e (may_map (λ (x : List ValueType). Exchanges (x ++ I32 ∷ []) x)
    (slice_get c.labels l) p r h)
change_at c i (layer.BrTable ls default) p r e f h =
    let m = may_map (λ (x : List ValueType). Leaves (x ++ I32 ∷ [])) (slice_get c.labels default) p r h in
    plainly c i (layer.BrTable ls default) p r e
    (m.0, m.2.0, m.1, labels_same c ls default m.0 m.1 f, m.2.1 ∙ sym (append_assoc m.2.0 m.0 (I32 ∷ [])))
change_at c i layer.Return p r e f h = plainly c i layer.Return p r e h
change_at c i (layer.Call g) p r e f h =
    let m = may_then (λ x. option_map call_change (slice_get c.types x)) (slice_get c.functions g) p r h in
    let n = may_map call_change (slice_get c.types m.0) p r m.2 in
    plainly c i (layer.Call g) p r e (m.0, n.0, m.1, n.1, n.2)
change_at c i (layer.CallIndirect g) p r e f h =
    let m = may_then (λ _. option_map called_slot (slice_get c.types g)) (slice_get c.tables 0) p r h in
    let n = may_map called_slot (slice_get c.types g) p r m.2 in
    plainly c i (layer.CallIndirect g) p r e (n.0, some_first c.tables m.0 m.1, n.1, n.2)
change_at c i layer.Drop p r e f h = plainly c i layer.Drop p r e h
change_at c i (layer.LocalGet x) p r e f h =
    plainly c i (layer.LocalGet x) p r e (may_map (λ y. Exchanges [] (y ∷ [])) (slice_get c.locals x) p r h)
change_at c i (layer.LocalSet x) p r e f h =
    plainly c i (layer.LocalSet x) p r e (may_map (λ y. Exchanges (y ∷ []) []) (slice_get c.locals x) p r h)
change_at c i (layer.LocalTee x) p r e f h =
    plainly c i (layer.LocalTee x) p r e (may_map (λ y. Exchanges (y ∷ []) (y ∷ [])) (slice_get c.locals x) p r h)
change_at c i (layer.GlobalGet g) p r e f h =
    plainly c i (layer.GlobalGet g) p r e (may_map (λ y. Exchanges [] (y ∷ [])) (slice_get c.globals g) p r h)
change_at c i (layer.Load kind) p r e f h =
    let m = may_map (λ _. Exchanges (I32 ∷ []) (I64 ∷ [])) (slice_get c.memories 0) p r h in
    plainly c i (layer.Load kind) p r e (some_first c.memories m.0 m.1, m.2)
change_at c i (layer.Store width) p r e f h =
    let m = may_map (λ _. Exchanges (I32 ∷ I64 ∷ []) []) (slice_get c.memories 0) p r h in
    plainly c i (layer.Store width) p r e (some_first c.memories m.0 m.1, m.2)
change_at c i (layer.I32Const n) p r e f h = plainly c i (layer.I32Const n) p r e h
change_at c i (layer.I64Const n) p r e f h = plainly c i (layer.I64Const n) p r e h
change_at c i (layer.Numeric o) p r e f h = plainly c i (layer.Numeric o) p r e h

pub change_types : (c : Context) (i : Instr) (p r : List ValueType) → CodeFits c (out-Instr i)
    → MayRule (change c (out-Instr i)) p r → Types c i p r
change_types c i p r f h = change_at c i (out-Instr i) p r refl f h
