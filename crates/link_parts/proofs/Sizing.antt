-- The bytes that modules take.
use Rattle.std.proofs.Common.{◌≡◌, ℕ, ◌+◌, ◌<◌, min, List, [], ◌∷◌, ◌++◌, length, take, get_or, ap, sym, ◌∙◌, add-one, arith}
use Rattle.std.proofs.Math.Seq.{take-suc}
use Rattle.std.proofs.lemmas.List.{map-append}
use Rattle.def_scheme.specs.Modules.{Part, stack_begin}
use Rattle.m2_emit.specs.declared.emitted.ModuleBytes.{ModuleBytes}
use Rattle.m2_emit.specs.Emitted.{link_part, parts}
use Rattle.link_parts.specs.Linked.{bytes_for}

begin_more : (xs : List Part) (x : Part) → stack_begin (xs ++ x ∷ []) ≡ stack_begin xs + (x.variables + x.texts)
begin_more [] x = omega arith
begin_more (y ∷ ys) x = omega (arith, begin_more ys x)

-- one more module takes its bytes
pub one_more_sized : (ms : List ModuleBytes) (k : ℕ) (m : ModuleBytes) (old new variables texts : ℕ) → k < length ms
    → m ≡ get_or ms k m → old ≡ bytes_for (parts (take k ms))
    → variables ≡ m.variables → texts ≡ m.texts → new ≡ min (old + (variables + texts)) 18446744073709551615
    → new ≡ bytes_for (parts (take (k + 1) ms))
one_more_sized ms k m old new variables texts l at so v t is =
    let taken : take (k + 1) ms ≡ take k ms ++ m ∷ [] =
    rw add-one (take-suc ms k m l ∙ ap (λ (x : ModuleBytes). take k ms ++ x ∷ []) (sym at)) in
    let begins : stack_begin (parts (take (k + 1) ms)) ≡ stack_begin (parts (take k ms)) + (m.variables + m.texts) =
    ap (λ (xs : List ModuleBytes). stack_begin (parts xs)) taken
    ∙ ap stack_begin (map-append link_part (take k ms) (m ∷ [])) ∙ begin_more (parts (take k ms)) (link_part m)
    in
    omega (arith, so, v, t, is, begins)
