-- What follows from the rules of validity for code, read backwards.
use Rattle.std.proofs.Common.{◌≡◌, List, [], ◌∷◌, ◌++◌, refl, sym, subst}
use Rattle.wasm_tree.specs.declared.kinds.ValueType.{ValueType}
use Rattle.wasm_tree.specs.declared.kinds.ValueType.TheVariants.{I32}
use Rattle.wasm_tree.specs.declared.instr.Instr.{Instr, out-Instr}
use Rattle.wasm_tree.specs.declared.instr.Instr.TheOpen as layer
use Rattle.wasm_tree.specs.Validity.{Context, IsPlain, Types, Plain, Block, Loop, If, Leads, Empty, More, within, result_types, side_of}

-- what an instruction takes and gives, by cases on it
abbrev pub Layered : Context → layer.Instr-F Instr → (params results : List ValueType) → Type 0
Layered c (layer.Block t body) p r = (p ≡ []) × (r ≡ result_types t)
    × Leads (within (result_types t) c) body [] (result_types t)
Layered c (layer.Loop t body) p r = (p ≡ []) × (r ≡ result_types t) × Leads (within [] c) body [] (result_types t)
Layered c (layer.If t body otherwise) p r =
    (p ≡ I32 ∷ []) × (r ≡ result_types t) × Leads (within (result_types t) c) body [] (result_types t)
    × Leads (within (result_types t) c) (side_of otherwise) [] (result_types t)
Layered c l p r = IsPlain c l p r

plain_layered : (c : Context) (l : layer.Instr-F Instr) (p r : List ValueType) → IsPlain c l p r → Layered c l p r
plain_layered c (layer.Block t body) p r h = absurd h
plain_layered c (layer.Loop t body) p r h = absurd h
plain_layered c (layer.If t body otherwise) p r h = absurd h
plain_layered c l p r h = h

pub layered : (c : Context) (i : Instr) (p r : List ValueType) → Types c i p r → Layered c (out-Instr i) p r
layered c i p r (Plain _ _ _ _ h) = plain_layered c (out-Instr i) p r h
layered c i p r (Block _ _ t body e h) =
    subst (λ (x : layer.Instr-F Instr). Layered c x [] (result_types t)) (sym e) (refl, refl, h)
layered c i p r (Loop _ _ t body e h) = subst (λ (x : layer.Instr-F Instr). Layered c x [] (result_types t)) (sym e)
    (refl, refl, h)
layered c i p r (If _ _ t body otherwise e h g) =
    subst (λ (x : layer.Instr-F Instr). Layered c x (I32 ∷ []) (result_types t)) (sym e) (refl, refl, h, g)

pub no_code : (c : Context) (stack after : List ValueType) → Leads c [] stack after → stack ≡ after
no_code c stack after (Empty _ _) = refl

-- the first instruction takes the operands on top, and the others lead on from those that it gives
pub first_of : (c : Context) (i : Instr) (is : List Instr) (stack after : List ValueType) → Leads c (i ∷ is) stack after
    → (below p r : List ValueType) × (stack ≡ below ++ p) × Types c i p r × Leads c is (below ++ r) after
first_of c i is stack after (More _ _ _ below p r _ t h) = (below, p, r, refl, t, h)
