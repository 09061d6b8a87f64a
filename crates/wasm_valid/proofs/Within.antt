-- Code in its frame.
use Rattle.std.proofs.Common.{◌≡◌, List, [], ◌∷◌, ◌++◌, Option, Result, ap, subst, ◌∙◌}
use Rattle.std.specs.Prelude.{All}
use Rattle.wasm_tree.specs.declared.fault.WFault.{WFault}
use Rattle.wasm_tree.specs.declared.kinds.ValueType.{ValueType}
use Rattle.wasm_tree.specs.declared.kinds.FuncType.{FuncType}
use Rattle.wasm_tree.specs.declared.instr.Instr.{Instr}
use Rattle.wasm_tree.specs.declared.module.Locals.{Locals}
use Rattle.wasm_tree.specs.Validity.{Context, local_types, result_types, function_context, Leads, IsConstant, IsConstantOf}
use Rattle.wasm_valid.specs.declared.frame.Frame.{Frame}
use Rattle.wasm_valid.specs.CodeScope.{scope_of}
use Rattle.wasm_valid.specs.Framed.{frame_context}
use Rattle.wasm_valid.specs.Typing.{Decides}
use Rattle.wasm_valid.proofs.Walks.{decides_same}

leads_in : {A : Type 0} (result : Result A WFault) (c d : Context) (code other : List Instr) (rs ts : List ValueType)
    → c ≡ d → code ≡ other → rs ≡ ts → Decides result (Leads c code [] rs) → Decides result (Leads d other [] ts)
leads_in result c d code other rs ts e f g h =
    subst (λ (x : Context). Decides result (Leads x other [] ts)) e
    (subst (λ (x : List Instr). Decides result (Leads c x [] ts)) f
    (subst (λ (x : List ValueType). Decides result (Leads c code [] x)) g h))

body_context : (f : Frame) (blocks : List (Option ValueType)) (t : FuncType) (groups : List Locals)
    → f.params.now ≡ t.params → f.locals.groups.now ≡ groups → blocks ≡ f.returns ∷ []
    → result_types f.returns ≡ t.results → frame_context f blocks ≡ function_context (scope_of f.scope) t groups
body_context f blocks t groups p g b r =
    ap (λ (x : List (Option ValueType)). frame_context f x) b
    ∙ ap (λ (x : List ValueType). record (scope_of f.scope) {
      locals = x ++ local_types f.locals.groups.now;
      labels = result_types f.returns ∷ [];
      returns =
          result_types f.returns;
    }) p
    ∙ ap (λ (x : List Locals). record (scope_of f.scope)
    { locals = t.params ++ local_types x; labels = result_types f.returns ∷ []; returns = result_types f.returns })
    g
    ∙ ap (λ (x : List ValueType). record (scope_of f.scope)
    { locals = t.params ++ local_types groups; labels = x ∷ []; returns = x }) r

pub body_decides : {A : Type 0} (result : Result A WFault) (f : Frame) (blocks : List (Option ValueType)) (t : FuncType)
    (groups : List Locals) (code other : List Instr) → f.params.now ≡ t.params → f.locals.groups.now ≡ groups
    → blocks ≡ f.returns ∷ [] → result_types f.returns ≡ t.results → code ≡ other
    → Decides result (Leads (frame_context f blocks) code [] (result_types f.returns))
    → Decides result (Leads (function_context (scope_of f.scope) t groups) other [] t.results)
body_decides result f blocks t groups code other p g b r e h =
    leads_in result (frame_context f blocks) (function_context (scope_of f.scope) t groups) code other
    (result_types f.returns) t.results (body_context f blocks t groups p g b r) e r h

pub constant_decides : {A : Type 0} (result : Result A WFault) (c d : Context) (code : List Instr) (t : ValueType)
    → All IsConstant code → Decides result (Leads c code [] (t ∷ [])) → c ≡ d → Decides result (IsConstantOf d t code)
constant_decides result c d code t all h same =
    let here = subst (λ (x : Context). Decides result (Leads x code [] (t ∷ []))) same h in
    decides_same result (Leads d code [] (t ∷ [])) (IsConstantOf d t code)
    (λ x. record { constant = all; typed = x }, λ x. x.typed) here
