-- What a module imports, from what was found on the way.
use Rattle.std.proofs.Common.{◌≡◌, ℕ, ◌+◌, ◌-◌, ◌<◌, ◌≤◌, List, [], ◌∷◌, ◌++◌, length, take, drop, get_or, sym, ap, ◌∙◌, arith}
use Rattle.std.specs.Borrow.{Bor}
use Rattle.std.specs.List.{flat_map}
use Rattle.std.proofs.lemmas.List.{map-append, flat_map_more, take_rest}
use Rattle.m2_tree.specs.declared.decl.Module.{Module}
use Rattle.build_jobs.specs.Borrowed.{modules_borrowed}
use Rattle.list_imports.specs.Listed.{imported_by, told, once, with_new}
use Rattle.list_imports.proofs.Adding.{taken, told_more, all_new}
use Rattle.compile_module.specs.Told.{definition_imports, imports_of}

abbrev Texts : Type 0
Texts = List (List ℕ)

abbrev Borrowed : Type 0
Borrowed = Bor (List ℕ) × Bor Module

abbrev module_of : Borrowed → Module
module_of t = t.1.now

-- what definitions of the module of this name import
abbrev defined_in : (name : List ℕ) → List Borrowed → Texts
defined_in name ts = flat_map (definition_imports name) (modules_borrowed ts)

-- one more module, which may be such a definition
pub definitions_more : (name : List ℕ) (now new : Texts) (ts : List Borrowed) (k : ℕ) (t : Borrowed) → k < length ts
    → t ≡ get_or ts k t → now ≡ with_new [] (told (defined_in name (take k ts)))
    → new ≡ with_new now (told (definition_imports name t.1.now))
    → new ≡ with_new [] (told (defined_in name (take (k + 1) ts)))
definitions_more name now new ts k t l at h e =
    told_more [] now new (defined_in name (take k ts)) (definition_imports name t.1.now) h e
    ∙ ap (λ (ns : Texts). with_new [] (told ns))
    (flat_map_more (definition_imports name) [] (modules_borrowed (take k ts)) t.1.now
    ∙ ap (flat_map (definition_imports name)) (sym (map-append module_of (take k ts) (t ∷ [])))
    ∙ ap (defined_in name) (taken ts k t l at))

abbrev all_of : Module → List Borrowed → Texts
all_of m ts = defined_in m.name.name ts ++ imported_by m

of_first : (ts : List Borrowed) (t : Borrowed) → 1 ≤ length ts → t ≡ get_or ts 0 t
    → all_of t.1.now (drop 1 ts) ≡ imports_of (modules_borrowed ts)
of_first [] t l at = absurd (omega (arith, l))
of_first (u ∷ ts) t l at = ap (λ (v : Borrowed). all_of v.1.now ts) at

-- what the definition of the first module imports, and then what the first imports itself
pub all_imports : (now new : Texts) (ts : List Borrowed) (t : Borrowed) → 1 ≤ length ts → t ≡ get_or ts 0 t
    → now ≡ with_new [] (told (defined_in t.1.now.name.name (take (length ts - 1) (drop 1 ts))))
    → new ≡ with_new now (told (imported_by t.1.now)) → new ≡ once (told (imports_of (modules_borrowed ts)))
all_imports now new ts t l at h e =
    let rest : List Borrowed = take (length ts - 1) (drop 1 ts) in
    told_more [] now new (defined_in t.1.now.name.name rest) (imported_by t.1.now) h e
    ∙ all_new (told (all_of t.1.now rest))
    ∙ ap (λ (ns : Texts). once (told ns)) (ap (all_of t.1.now) (take_rest ts 1) ∙ of_first ts t l at)
