-- What the module of a body knows: its types, its variables, and what it imports.
use Rattle.std.proofs.Common.{◌≡◌, ℕ, ◌==◌, Bool, true, false, cond, List, [], ◌∷◌, ◌++◌, Option, Some, None, Result, Ok, Err, refl, sym, ap, ◌∙◌}
use Rattle.std.proofs.lemmas.List.{append-nil, append_assoc}
use Rattle.std.specs.Prelude.{slice_get}
use Rattle.std.specs.List.{AllByRecursion, fold}
use Rattle.std.specs.Option.{is_some, unwrap_or}
use Rattle.m2_rule.specs.declared.rule.Rule.TheVariants as rule
use Rattle.m2_tree.specs.declared.decl.Module.{Module}
use Rattle.m2_tree.specs.declared.decl.Contents.{Contents}
use Rattle.m2_tree.specs.declared.decl.Contents.TheVariants as contents
use Rattle.m2_tree.specs.declared.decl.Decl.{Decl, Decl-F, out-Decl, map-Decl, fold_out-Decl}
use Rattle.m2_tree.specs.declared.decl.Decl.TheOpen as layer
use Rattle.m2_tree.specs.declared.decl.Block.{Block, out-Block}
use Rattle.typed_tree.specs.declared.types.TypeNo.{TypeNo}
use Rattle.typed_tree.specs.declared.shape.Made.{Made}
use Rattle.typed_tree.specs.declared.statement.TypedStmt.{TypedStmt}
use Rattle.typed_tree.specs.declared.table.ModuleTypes.{ModuleTypes}
use Rattle.typed_tree.specs.declared.table.Table.{Table}
use Rattle.typed_tree.specs.declared.known_types.Types.{Types}
use Rattle.typed_tree.specs.declared.typed_module.TypedModule.{TypedModule}
use Rattle.typed_tree.specs.declared.typed_module.Which.{Which}
use Rattle.typed_tree.specs.Known.{in_list, made_in}
use Rattle.check_scope.specs.Elaborated.{Gathers}
use Rattle.check_scope.specs.declared.scope.Scope.{Scope}
use Rattle.check_definition.specs.Predeclared.{console, first_scope}
use Rattle.check_definition.specs.Importing.{numbered_modules}
use Rattle.check_definition.specs.Declare.{with_variable_type, with_procedure_type}
use Rattle.check_block.specs.Nesting.{procedure_ends}
use Rattle.check_block.specs.Declarations.{declared_module}
use Rattle.check_body.specs.declared.routine.Bodies.{Bodies}
use Rattle.check_body.specs.Imports.{all_imports, typed_imports}
use Rattle.check_body.specs.Own.{exported_variables, implementation_scope}
use Rattle.check_body.specs.Routines.{typed_module}
use Rattle.check_body.specs.declared.procedure.Walk.{Walk}
use Rattle.check_body.specs.Elaborating.{Elaborates}
use Rattle.check_body.specs.Bodies.{Checked, ChecksBlock, Steps, with_body, steps_layer, block_layer, steps, checks_block, checks_decl}
use Rattle.check_body.specs.Checked.{walk_body, of_body, of_implementation, of_contents, body_module}
use Rattle.law_well_formed.specs.Formed.{Holds, fine, broken}
use Rattle.law_well_formed.proofs.Basics.{then_holds, both_holds, any_holds, reported_holds}
use Rattle.law_well_formed.proofs.ImportsWalks.{walk_keeps}
use Rattle.law_well_formed.specs.FormedRanges.{first_types}
use Rattle.law_well_formed.specs.Ordered.{AreOrdered}
use Rattle.law_well_formed.proofs.Trees.{at, get_more}
use Rattle.law_well_formed.specs.FormedOrder.{StartedFrom}
use Rattle.law_well_formed.specs.FormedKnown.{fits_block, fits_contents, HasReached, TableFormed, TablesFormed, OwnFormed}
use Rattle.law_well_formed.proofs.Gathered.{each_more}
use Rattle.law_well_formed.proofs.KnownBegins.{ScopeFormed, console_formed, first_formed, first_has, begun_types, tables_have, own_has, implementation_formed}
use Rattle.law_well_formed.proofs.KnownWalks.{walked_formed}
use Rattle.law_programs.proofs.Kept.{module_keeps}

-- ---- further types keep what is reached

get_some : {X : Type 0} (xs ys : List X) (n : ℕ) (x : X) → slice_get xs n ≡ Some x → slice_get (xs ++ ys) n ≡ Some x
get_some xs ys n x e = get_more xs ys n (ap is_some e) ∙ e

abbrev made_with : (k n home : ℕ) → List Made → List (ℕ × List Made) → Option Made
made_with k n home own others = cond (k == home) (slice_get own n) (in_list n (at k others))

made_kept : (a b : Types) → StartedFrom a b → (k n : ℕ) (x : Made) → made_in a k n ≡ Some x → made_in b k n ≡ Some x
made_kept a b p k n x e = same ∙ by (k == a.home) e where
  same : made_in b k n ≡ made_with k n a.home (a.own ++ p.more) a.others
  same =
      ap (λ (h : ℕ). made_with k n h b.own b.others) p.home
      ∙ ap (λ (ms : List Made). made_with k n a.home ms b.others) p.own
      ∙ ap (λ (es : List (ℕ × List Made)). made_with k n a.home (a.own ++ p.more) es) p.others

  by : (c : Bool) → cond c (slice_get a.own n) (in_list n (at k a.others)) ≡ Some x
      → cond c (slice_get (a.own ++ p.more) n) (in_list n (at k a.others)) ≡ Some x
  by true g = get_some a.own p.more n x g
  by false g = g

reached_kept : (a b : Types) → StartedFrom a b → (ms : List ModuleTypes) → HasReached a ms → HasReached b ms
reached_kept a b p [] h = tt
reached_kept a b p (m ∷ ms) h = (λ n x g. made_kept a b p m.number n x (h.0 n x g), reached_kept a b p ms h.1)

all_kept : (a b : Types) → StartedFrom a b → (ts : List Table) → AllByRecursion (λ t. HasReached a t.reached) ts
    → AllByRecursion (λ t. HasReached b t.reached) ts
all_kept a b p [] h = tt
all_kept a b p (t ∷ ts) h = (reached_kept a b p t.reached h.0, all_kept a b p ts h.1)

-- ---- variables

-- these variables are those, and further ones
abbrev pub BeginWith : List TypeNo → List TypeNo → Type 0
BeginWith first all = (more : List TypeNo) × (all ≡ first ++ more)

module _ (g : Gathers) where
  varied : (first : List TypeNo) (s : Scope g.Reported) (t : Result TypeNo g.Reported) → BeginWith first s.variables
      → BeginWith first (with_variable_type s t).variables
  varied first s (Ok t) h = (
    h.0 ++ t ∷ [],
    ap (λ (ts : List TypeNo). ts ++ t ∷ []) h.1
        ∙ append_assoc first h.0 (t ∷ []),
  )
  varied first s (Err e) h = h

  headed : (first : List TypeNo) (s : Scope g.Reported) (t : Result TypeNo g.Reported) → BeginWith first s.variables
      → BeginWith first (with_procedure_type s t).variables
  headed first s (Ok t) h = h
  headed first s (Err e) h = h

  variables_begin : (first : List TypeNo) (modules : List (List ℕ × ℕ)) (ends : List ℕ) (s : Scope g.Reported)
      (m : Module) (ds : List Decl) → BeginWith first s.variables
      → BeginWith first (declared_module g modules ends s m ds).0.variables
  variables_begin first modules ends s m ds h =
      module_keeps g (λ x. BeginWith first x.variables) (λ x name k p. p) (λ x made p. p) (varied first) (headed first)
      modules ends s m ds h

  module _ (elaborates : Elaborates g.Reported) (ends : List ℕ) where
    abbrev steps_of : Decl → Steps g.Reported
    steps_of = steps g elaborates ends

    abbrev block_of : Block → ChecksBlock g.Reported
    block_of = checks_block g elaborates ends

    abbrev opened : Decl-F Decl Block → Decl-F (Steps g.Reported) (ChecksBlock g.Reported)
    opened x = map-Decl Decl Block (Steps g.Reported) (ChecksBlock g.Reported) steps_of block_of x

    step_is : (e : Decl) (x : Decl-F Decl Block) → out-Decl e ≡ x
        → steps_of e ≡ steps_layer g elaborates ends (opened x)
    unfolding steps checks_block
    step_is e x h = fold_out-Decl (Steps g.Reported) (ChecksBlock g.Reported) (steps_layer g elaborates ends)
        (block_layer g elaborates ends) e ∙ ap (λ (y : Decl-F Decl Block). steps_layer g elaborates ends (opened y)) h

    layer_variables : (x : Decl-F Decl Block) (around : Option Which) (seen : ℕ) (w : Walk g.Reported)
        → ((steps_layer g elaborates ends (opened x)).checks around seen w).scope.variables ≡ w.scope.variables
    layer_variables (layer.Constants cs) around seen w = refl
    layer_variables (layer.Types ts) around seen w = refl
    layer_variables (layer.Variables vs) around seen w = refl
    layer_variables (layer.Procedure h b) around seen w = refl

    decl_variables : (d : Decl) (around : Option Which) (seen : ℕ) (w : Walk g.Reported)
        → (checks_decl g elaborates ends d around seen w).scope.variables ≡ w.scope.variables
    decl_variables d around seen w = ap (λ (x : Steps g.Reported). (x.checks around seen w).scope.variables)
        (step_is d (out-Decl d) refl) ∙ layer_variables (out-Decl d) around seen w

    bodies_variables : (seen : List ℕ) (ds : List Decl) (st : Walk g.Reported × ℕ)
        → (fold (with_body (λ d. checks_decl g elaborates ends d None) seen) st ds).0.scope.variables
        ≡ st.0.scope.variables
    bodies_variables seen [] st = refl
    bodies_variables seen (d ∷ ds) st = bodies_variables seen ds
        (with_body (λ d. checks_decl g elaborates ends d None) seen st d)
        ∙ decl_variables d None (unwrap_or (slice_get seen st.1) 0) st.0

    walked_variables : (modules : List (List ℕ × ℕ)) (s : Scope g.Reported) (m : Module) (b : Block)
        → BeginWith s.variables (walk_body g elaborates modules ends s m b).0.scope.variables
    walked_variables modules s m b =
        let ds : List Decl = (out-Block b).decls in
        let d = variables_begin s.variables modules ends s m ds ([], sym (append-nil s.variables)) in
        (d.0, bodies_variables (declared_module g modules ends s m ds).2 ds (_, 0) ∙ d.1)

-- ---- the module of a body

record IsBodyIn {T : Type 0} (base : Types) (s : Scope T) (own : Option Table) (m : Module) (t : TypedModule) : Type 0
  where
    ordered : AreOrdered t.types
    started : StartedFrom base t.types
    name : t.name ≡ m.name.name
    variables : BeginWith s.variables t.variables
    imports : t.imports ≡ typed_imports (numbered_modules s.tables).0 s.tables
        (all_imports (numbered_modules s.tables).0 s.tables own m.imports)

module _ (g : Gathers) (elaborates : Elaborates g.Reported) where
  module_in : (base : Types) (s : Scope g.Reported) (own : Option Table) (m : Module) (after : Scope g.Reported)
      (rs : Bodies) (body : List TypedStmt) → ScopeFormed base after → after.tables ≡ s.tables
      → BeginWith s.variables after.variables
      → IsBodyIn base s own m (typed_module after (numbered_modules s.tables).0 own m rs body)
  module_in base s own m after rs body h e v = record {
    ordered = h.ordered.types;
    started = h.ordered.started;
    name = refl;
    variables = v;
    imports = ap (λ (ts : List Table). typed_imports (numbered_modules s.tables).0 ts
        (all_imports (numbered_modules s.tables).0 ts own m.imports)) e;
  }

  body_in : (base : Types) (s : Scope g.Reported) (own : Option Table) (m : Module) (b : Block) → fits_block b ≡ true
      → ScopeFormed base s → Holds (IsBodyIn base s own m) (of_body g elaborates s own m b)
  body_in base s own m b e h =
      let ends : List ℕ = procedure_ends (out-Block b).decls in
      let modules : List (List ℕ × ℕ) = (numbered_modules s.tables).0 in
      let w : Checked g.Reported = walk_body g elaborates modules ends s m b in
      let keeps = walk_keeps g elaborates ends modules s m b in
      then_holds (both_holds g (walked_formed g elaborates ends base modules s m b e h) (any_holds w.1)) (λ x k.
      fine _ (module_in base s own m w.0.scope w.0.bodies x.1 k.0 (ap (λ (p : List Table × ℕ). p.0) keeps)
      (walked_variables g elaborates ends modules s m b)))

-- what is known of the module's own definition
abbrev pub OwnIn : Option Table → TypedModule → Type 0
OwnIn None t = Unit {0}
OwnIn (Some o) t = HasReached t.types o.reached × BeginWith (exported_variables o.exported) t.variables

-- what is known of a module by the tables that it is checked with
pub record IsKnownBy (m : Module) (own : Option Table) (home : ℕ) (ts : List Table) (t : TypedModule) : Type 0 where
  pub ordered : AreOrdered t.types
  pub home_is : t.types.home ≡ home
  pub name : t.name ≡ m.name.name
  pub has : AllByRecursion (λ u. HasReached t.types u.reached) ts
  pub own_in : OwnIn own t
  pub imports : t.imports ≡ typed_imports (numbered_modules ts).0 ts
      (all_imports (numbered_modules ts).0 ts own m.imports)

-- a program has no definition of its own, and an implementation has one
abbrev pub IsKnown : Module → Option Table → (number : ℕ) → List Table → TypedModule → Contents → Type 0
IsKnown m own number ts t (contents.Definition ds) = ⊥
IsKnown m own number ts t (contents.Implementation b) = (o : Table) × (own ≡ Some o)
    × IsKnownBy m (Some o) o.number ts t
IsKnown m own number ts t (contents.Program b) = IsKnownBy m None number ts t

module _ (g : Gathers) (elaborates : Elaborates g.Reported) (types_of : ℕ → List Made) (number : ℕ) (m : Module) where
  program_known : (ts : List Table) (b : Block) → fits_block b ≡ true → TablesFormed types_of number ts
      → Holds (IsKnownBy m None number ts) (of_body g elaborates (first_scope number ts) None m b)
  program_known ts b e p =
      then_holds_of (body_in g elaborates (first_types number ts) (first_scope number ts) None m b e
      (first_formed types_of number ts p)) (λ t h. record {
        ordered = h.ordered;
        home_is = h.started.home;
        name = h.name;
        has = all_kept (first_types number ts) t.types h.started ts (first_has types_of number ts p);
        own_in = tt;
        imports = h.imports;
      })
    where
      then_holds_of : {A T : Type 0} {P Q : A → Type 0} {r : Result A T} → Holds P r → ((x : A) → P x → Q x) → Holds Q r
      then_holds_of (fine x p) k = fine x (k x p)
      then_holds_of (broken e) k = broken e

  own_known : (own : Option Table) (ts : List Table) (b : Block) → fits_block b ≡ true → OwnFormed types_of number own
      → TablesFormed types_of number ts
      → Holds (λ t. (o : Table) × (own ≡ Some o) × IsKnownBy m (Some o) o.number ts t)
      (of_implementation g elaborates m own ts b)
  own_known None ts b e f p = reported_holds g m.name.pos rule.LonelyModule
  own_known (Some o) ts b e f p =
      let base : Types = begun_types types_of number o ts f.0 f.1 p in
      then_holds_of (body_in g elaborates base (implementation_scope o ts) (Some o) m b e
      (implementation_formed types_of number o ts f.0 f.1 p)) (λ t h. (
        o,
        refl,
        record {
          ordered = h.ordered;
          home_is = h.started.home;
          name = h.name;
          has = all_kept base t.types h.started ts (tables_have types_of number o ts f.0 f.1 p);
          own_in = (
            reached_kept base t.types h.started o.reached (own_has types_of number o ts f.0 f.1 p),
            h.variables,
          );
          imports = h.imports;
        },
      ))
    where
      then_holds_of : {A T : Type 0} {P Q : A → Type 0} {r : Result A T} → Holds P r → ((x : A) → P x → Q x) → Holds Q r
      then_holds_of (fine x p) k = fine x (k x p)
      then_holds_of (broken e) k = broken e

  contents_known : (own : Option Table) (ts : List Table) (c : Contents) → fits_contents c ≡ true
      → OwnFormed types_of number own → TablesFormed types_of number ts
      → Holds (λ t. IsKnown m own number ts t c) (of_contents g elaborates number m own ts c)
  contents_known own ts (contents.Definition ds) e f p = reported_holds g m.name.pos rule.LonelyModule
  contents_known own ts (contents.Implementation b) e f p = own_known own ts b e f p
  contents_known own ts (contents.Program b) e f p = program_known ts b e p

  pub module_known : (own : Option Table) (ts : List Table) → fits_contents m.contents ≡ true
      → OwnFormed types_of number own → TablesFormed types_of number ts
      → Holds (λ t. IsKnown m own number (ts ++ console ∷ []) t m.contents) (body_module g elaborates number m own ts)
  module_known own ts e f p = contents_known own (ts ++ console ∷ []) m.contents e f
      (each_more (TableFormed types_of number) ts console p (console_formed types_of number))
