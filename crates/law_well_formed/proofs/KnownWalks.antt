-- The bodies of procedures keep what a scope knows of types.
use Rattle.std.proofs.Common.{◌≡◌, ℕ, suc, ◌<◌, Bool, true, false, ◌&&◌, List, [], ◌∷◌, ◌++◌, length, Option, Some, None, Result, refl, sym, ap, subst, ◌∙◌, arith}
use Rattle.std.specs.Prelude.{map, slice_get}
use Rattle.std.specs.List.{AllByRecursion, fold, list_all}
use Rattle.std.specs.Option.{unwrap_or}
use Rattle.m2_rule.specs.declared.rule.Rule.TheVariants as rule
use Rattle.m2_tree.specs.declared.stmt.Stmt.{Stmt}
use Rattle.m2_tree.specs.declared.decl.Heading.{Heading}
use Rattle.m2_tree.specs.declared.decl.Module.{Module}
use Rattle.m2_tree.specs.declared.decl.Contents.{Contents}
use Rattle.m2_tree.specs.declared.decl.Contents.TheVariants as contents
use Rattle.m2_tree.specs.declared.decl.Decl.{Decl, Decl-F, out-Decl, roll-Decl, out-roll-Decl, map-Decl, fold_out-Decl}
use Rattle.m2_tree.specs.declared.decl.Decl.TheOpen as layer
use Rattle.m2_tree.specs.declared.decl.Block.{Block, Block-F, out-Block, roll-Block, out-roll-Block, map-Block, fold_out-Block}
use Rattle.typed_tree.specs.declared.shape.Made.{Made}
use Rattle.typed_tree.specs.declared.table.Table.{Table}
use Rattle.typed_tree.specs.declared.known_types.Types.{Types}
use Rattle.typed_tree.specs.declared.typed_module.TypedModule.{TypedModule}
use Rattle.typed_tree.specs.declared.typed_module.Which.{Which}
use Rattle.typed_tree.specs.declared.types.TypeNo.{TypeNo}
use Rattle.check_scope.specs.Elaborated.{Gathers}
use Rattle.check_scope.specs.Scopes.{State}
use Rattle.check_scope.specs.declared.scope.Scope.{Scope}
use Rattle.check_definition.specs.Predeclared.{console, first_scope}
use Rattle.check_definition.specs.Importing.{numbered_modules}
use Rattle.check_block.specs.Nesting.{procedure_ends}
use Rattle.check_block.specs.Declarations.{Declared, all_declared, declared_block, declared_module}
use Rattle.check_body.specs.Own.{implementation_scope}
use Rattle.check_body.specs.declared.procedure.Walk.{Walk}
use Rattle.check_body.specs.Elaborating.{Elaborates}
use Rattle.check_scope.specs.declared.inner.Outside.{Outside}
use Rattle.check_scope.specs.Inwards.{left_procedure}
use Rattle.check_body.specs.Inside.{which_of, begun_procedure, reported_in}
use Rattle.check_body.specs.Bodies.{Checked, ChecksBlock, Steps, marked_by, declared_by, again_by, checked_by, with_body, begun_from, procedure_checked, steps_layer, block_layer, steps, checks_block, checks_decl}
use Rattle.check_body.specs.Checked.{walk_body, of_body, of_implementation, of_contents, body_module}
use Rattle.law_well_formed.proofs.BodyFolds.{OfDecl, OfBlock, bare, bare_block, opened, opened_block, declared_same, all_decls as all_steps_by}
use Rattle.law_well_formed.specs.Formed.{Holds, fine, broken}
use Rattle.law_well_formed.proofs.Basics.{then_holds, holds_weaker, both_holds, any_holds, reported_holds}
use Rattle.law_modules.specs.Ranges.{AreRanged}
use Rattle.law_well_formed.specs.FormedRanges.{itself, fits_decl, fits_decl_layer, ScopeRanged, first_types}
use Rattle.law_well_formed.proofs.RangesTypes.{both_left, both_right}
use Rattle.law_well_formed.proofs.RangesMade.{beside_then, const_holds}
use Rattle.law_well_formed.proofs.RangesBlocks.{block_ranged, module_ranged, entered_ranged, left_ranged}
use Rattle.law_well_formed.specs.Ordered.{AreKnown, AreOrdered}
use Rattle.law_well_formed.specs.FormedOrder.{StartedFrom, ScopeOrdered}
use Rattle.law_well_formed.proofs.OrderTypes.{known_kept, all_kept, based_here}
use Rattle.law_well_formed.proofs.OrderBlocks.{block_ordered, module_ordered, entered_ordered, left_ordered}
use Rattle.law_well_formed.specs.FormedKnown.{fits_within_layer, fits_block_layer, fits_within, fits_block, fits_contents, TableFormed, TablesFormed, OwnFormed}
use Rattle.law_well_formed.proofs.Gathered.{each_more}
use Rattle.law_well_formed.proofs.KnownBegins.{ScopeFormed, console_formed, first_formed, begun_types, implementation_formed}

and_both : (a b : Bool) → a ≡ true → b ≡ true → (a && b) ≡ true
and_both true b h k = k
and_both false b h k = absurd cc

then_two : {A T : Type 0} {base : Types} {s : Scope T} {r : Result A T} → Holds (λ x. ScopeRanged s) r
    → Holds (λ x. ScopeOrdered base s) r → Holds (λ x. ScopeFormed base s) r
then_two (fine x a) (fine _ b) = fine x (record { ranged = a; ordered = b })
then_two (broken e) b = broken e

holds_both : {A T : Type 0} {P Q : A → Type 0} {r : Result A T} → Holds P r → Holds Q r → Holds (λ x. P x × Q x) r
holds_both (fine x p) (fine _ q) = fine x (p, q)
holds_both (broken e) q = broken e

module _ (g : Gathers) (elaborates : Elaborates g.Reported) (ends : List ℕ) where
  -- the scope of a walk, where no rule is broken
  abbrev WalkFormed : Types → Walk g.Reported → Type 0
  WalkFormed base w = Holds (λ x. ScopeFormed base w.scope) w.so_far

  abbrev CheckFormed : (ℕ → Walk g.Reported → Walk g.Reported) → Type 0
  CheckFormed f = (base : Types) (seen : ℕ) (w : Walk g.Reported) → WalkFormed base w → WalkFormed base (f seen w)

  abbrev StepFormed : Steps g.Reported → Type 0
  StepFormed x = (around : Option Which) → CheckFormed (checked_by x around)

  abbrev BlockFormed : ChecksBlock g.Reported → Type 0
  BlockFormed block = (base : Types) (around : Option Which) (returns : Option (Result TypeNo g.Reported))
      (w : Walk g.Reported) → WalkFormed base w → WalkFormed base (block around returns w).0

  -- ---- procedures

  entered_formed : (base : Types) (w : Walk g.Reported) (seen : ℕ) (h : Heading) → ScopeFormed base w.scope
      → ScopeFormed base (begun_procedure g w seen h).0.scope
  entered_formed base w seen h k = record {
    ranged = entered_ranged g w.scope seen h k.ranged;
    ordered =
        entered_ordered base g w.scope seen h k.ordered;
  }

  -- behind the procedure, where its walk began with the types outside it
  left_formed : (base : Types) (o : Outside) (s : Scope g.Reported) (outer : Types) → ScopeFormed base s
      → StartedFrom outer s.types → AreKnown outer o.variables → ScopeFormed base (left_procedure o s)
  left_formed base o s outer k started v = record {
    ranged = left_ranged o s k.ranged;
    ordered = left_ordered base o s k.ordered (all_kept outer s.types (known_kept outer s.types started) o.variables v);
  }

  module _ (h : Heading) (block : ChecksBlock g.Reported) (f : BlockFormed block) (around : Option Which) (seen : ℕ)
      (w : Walk g.Reported) where
    abbrev first : Walk g.Reported
    first = (begun_procedure g w seen h).0

    abbrev last : Checked g.Reported
    last = block (which_of (begun_procedure g w seen h).1.procedure) (begun_procedure g w seen h).1.returns first

    inner_formed : (base : Types) → WalkFormed base first → WalkFormed base last.0
    inner_formed base p = f base (which_of (begun_procedure g w seen h).1.procedure)
        (begun_procedure g w seen h).1.returns first p

    abbrev Behind : Type 0
    Behind = StartedFrom w.scope.types last.0.scope.types × AreKnown w.scope.types w.scope.variables

    -- where a rule was broken before, one is broken in the end: else the walk began in two modules
    never_begun : (base : Types) → StartedFrom base last.0.scope.types
        → StartedFrom (record { home = suc base.home; own = []; others = [] }) last.0.scope.types → Behind
    never_begun base p q = let a = p.home in let b = q.home in
        absurd (let clash : base.home < base.home = omega (arith, a, b) in omega (arith, clash))

    behind_by : {P : Type 0} → (r : Result (Unit {0}) g.Reported) → w.so_far ≡ r → Holds (λ x. P) r
        → (P → ScopeFormed w.scope.types w.scope) → Holds (λ x. Behind) last.0.so_far
    behind_by _ e (fine x p) k =
        holds_weaker (λ x z. (z.ordered.started, (k p).ordered.variables))
        (inner_formed w.scope.types (const_holds (entered_formed w.scope.types w seen h (k p)) w.so_far))
    behind_by _ e (broken x) k =
        let any : (base : Types) → WalkFormed base first =
        λ base. subst (λ (r : Result (Unit {0}) g.Reported). Holds (λ x. ScopeFormed base first.scope) r) (sym e)
        (broken x) in
        let base : Types = w.scope.types in
        let other : Types = record { home = suc base.home; own = []; others = [] } in
        holds_weaker (λ x z. never_begun base z.0.ordered.started z.1.ordered.started)
        (holds_both (inner_formed base (any base)) (inner_formed other (any other)))

  procedure_formed : (h : Heading) (block : ChecksBlock g.Reported) → BlockFormed block → (around : Option Which)
      → CheckFormed (procedure_checked g elaborates ends h block around)
  procedure_formed h block f around base seen w p =
      let b = begun_procedure g w seen h in
      let e = last h block f around seen w in
      let one = inner_formed h block f around seen w base (holds_weaker (λ x k. entered_formed base w seen h k) p) in
      let two = behind_by h block f around seen w w.so_far refl p
      (λ k. record { ranged = k.ranged; ordered = based_here base w.scope k.ordered }) in
      beside_then g (reported_in e.1) (holds_both one two)
      (λ k. const_holds (left_formed base b.1.outside e.0.scope w.scope.types k.0 k.1.0 k.1.1) (reported_in e.1))

  bodies_formed : (base : Types) {X : Type 0} (checks : X → ℕ → Walk g.Reported → Walk g.Reported) (seen : List ℕ)
      (xs : List X) → AllByRecursion (λ x. CheckFormed (checks x)) xs → (st : Walk g.Reported × ℕ)
      → WalkFormed base st.0 → WalkFormed base (fold (with_body checks seen) st xs).0
  bodies_formed base checks seen [] h st p = p
  bodies_formed base checks seen (x ∷ xs) h st p =
      bodies_formed base checks seen xs h.1 (with_body checks seen st x)
      (h.0 base (unwrap_or (slice_get seen st.1) 0) st.0 p)

  -- ---- steps as declarations

  abbrev steps_of : Decl → Steps g.Reported
  steps_of = steps g elaborates ends

  abbrev block_of : Block → ChecksBlock g.Reported
  block_of = checks_block g elaborates ends

  -- ---- trees

  abbrev elaborated : Decl-F Decl Block → Decl-F Bool Bool
  elaborated x = map-Decl Decl Block Bool Bool fits_within fits_block x

  abbrev elaborated_block : Block-F Decl Block → Block-F Bool Bool
  elaborated_block x = map-Block Decl Block Bool Bool fits_within fits_block x

  fits_at : (e : Decl) (x : Decl-F Decl Block) → out-Decl e ≡ x → fits_within e ≡ fits_within_layer (elaborated x)
  unfolding fits_within fits_block
  fits_at e x h = fold_out-Decl Bool Bool fits_within_layer fits_block_layer e
      ∙ ap (λ (y : Decl-F Decl Block). fits_within_layer (elaborated y)) h

  fits_at_block : (e : Block) (x : Block-F Decl Block) → out-Block e ≡ x
      → fits_block e ≡ fits_block_layer (elaborated_block x)
  unfolding fits_within fits_block
  fits_at_block e x h = fold_out-Block Bool Bool fits_within_layer fits_block_layer e
      ∙ ap (λ (y : Block-F Decl Block). fits_block_layer (elaborated_block y)) h

  layer_fits : (x : Decl-F Decl Block) → fits_within_layer (elaborated x) ≡ true → fits_decl_layer x ≡ true
  layer_fits (layer.Constants cs) e = e
  layer_fits (layer.Types ts) e = e
  layer_fits (layer.Variables vs) e = e
  layer_fits (layer.Procedure h b) e = refl

  decl_fits : (d : Decl) → fits_within d ≡ true → fits_decl d ≡ true
  decl_fits d e = layer_fits (out-Decl d) (sym (fits_at d (out-Decl d) refl) ∙ e)

  decls_fit : (ds : List Decl) → list_all itself (map fits_within ds) ≡ true → list_all fits_decl ds ≡ true
  decls_fit [] e = refl
  decls_fit (d ∷ ds) e =
      and_both (fits_decl d) (list_all fits_decl ds)
      (decl_fits d (both_left (fits_within d) (list_all itself (map fits_within ds)) e))
      (decls_fit ds (both_right (fits_within d) (list_all itself (map fits_within ds)) e))

  -- ---- blocks, by induction

  abbrev PD : Decl → Steps g.Reported → Type 0
  PD d x = fits_within d ≡ true → StepFormed x

  abbrev PB : Block → ChecksBlock g.Reported → Type 0
  PB b c = fits_block b ≡ true → BlockFormed c

  abbrev SD : Type 0
  SD = OfDecl g elaborates ends PD PB

  abbrev SB : Type 0
  SB = OfBlock g elaborates ends PD PB

  abbrev stripped : Decl-F SD SB → Decl-F Decl Block
  stripped y = bare g elaborates ends PD PB y

  abbrev stripped_block : Block-F SD SB → Block-F Decl Block
  stripped_block y = bare_block g elaborates ends PD PB y

  abbrev decls_of : List SD → List Decl
  decls_of xs = map (λ (x : SD). x.0) xs

  declared_formed : (base : Types) (ds : List Decl) → list_all itself (map fits_within ds) ≡ true
      → (st : State (Unit {0}) g.Reported) (first : ℕ) → Holds (λ x. ScopeFormed base st.0) st.1
      → Holds (λ x. ScopeFormed base (declared_block g ends st first ds).0) (declared_block g ends st first ds).1
  declared_formed base ds e st first p =
      then_two (block_ranged g ends st first ds (decls_fit ds e) (holds_weaker (λ x k. k.ranged) p))
      (block_ordered base g ends st first ds (holds_weaker (λ x k. k.ordered) p))

  all_steps : (xs : List SD) → list_all itself (map fits_within (decls_of xs)) ≡ true → (around : Option Which)
      → AllByRecursion (λ x. CheckFormed (checked_by x around)) (map steps_of (decls_of xs))
  all_steps [] e around = tt
  all_steps (x ∷ xs) e around = (
    x.1 (both_left (fits_within x.0) (list_all itself (map fits_within (decls_of xs))) e) around,
    all_steps xs
        (both_right (fits_within x.0) (list_all itself (map fits_within (decls_of xs))) e) around,
  )

  block_formed : (xs : List SD) (body : Option (List Stmt)) → list_all itself (map fits_within (decls_of xs)) ≡ true
      → BlockFormed (block_layer g elaborates ends (record { decls = map steps_of (decls_of xs); body = body }))
  block_formed xs body e base around returns w p =
      let first : ℕ = length w.bodies.locals in
      let is : all_declared marked_by declared_by again_by (w.scope, w.so_far) first (map steps_of (decls_of xs))
      ≡ declared_block g ends (w.scope, w.so_far) first (decls_of xs) =
      declared_same g elaborates ends (decls_of xs) (w.scope, w.so_far) first in
      let start : WalkFormed base (begun_from
      (all_declared marked_by declared_by again_by (w.scope, w.so_far) first (map steps_of (decls_of xs))) w.bodies)
      = subst (λ (d : Declared g.Reported). WalkFormed base (begun_from d w.bodies)) (sym is)
      (declared_formed base (decls_of xs) e (w.scope, w.so_far) first p) in
      bodies_formed base (λ (x : Steps g.Reported). checked_by x around)
      (all_declared marked_by declared_by again_by (w.scope, w.so_far) first (map steps_of (decls_of xs))).2
      (map steps_of (decls_of xs)) (all_steps xs e around) (
        begun_from
            (all_declared marked_by declared_by again_by (w.scope, w.so_far) first (map steps_of (decls_of xs))) w.bodies,
        0,
      ) start

  step_at : (y : Decl-F SD SB) → fits_within_layer (elaborated (stripped y)) ≡ true
      → StepFormed (steps_layer g elaborates ends (opened g elaborates ends (stripped y)))
  step_at (layer.Constants cs) e = λ around base seen w p. p
  step_at (layer.Types ts) e = λ around base seen w p. p
  step_at (layer.Variables vs) e = λ around base seen w p. p
  step_at (layer.Procedure h b) e = λ around base seen w p. procedure_formed h (block_of b.0) (b.1 e) around base seen w
      p

  decl_step : (y : Decl-F SD SB)
      → PD (roll-Decl (stripped y)) (steps_layer g elaborates ends (opened g elaborates ends (stripped y)))
  decl_step y e =
      let x : Decl-F Decl Block = stripped y in step_at y (sym (fits_at (roll-Decl x) x (out-roll-Decl x)) ∙ e)

  block_step : (y : Block-F SD SB)
      → PB (roll-Block (stripped_block y))
      (block_layer g elaborates ends (opened_block g elaborates ends (stripped_block y)))
  block_step y e =
      let x : Block-F Decl Block = stripped_block y in
      block_formed y.decls y.body (sym (fits_at_block (roll-Block x) x (out-roll-Block x)) ∙ e)

  decl_formed : (d : Decl) → PD d (steps_of d)
  decl_formed = all_steps_by g elaborates ends PD PB decl_step block_step

  -- ---- modules

  all_decls : (ds : List Decl) → list_all itself (map fits_within ds) ≡ true → (around : Option Which)
      → AllByRecursion (λ d. CheckFormed (checks_decl g elaborates ends d around)) ds
  all_decls [] e around = tt
  all_decls (d ∷ ds) e around = (
    decl_formed d (both_left (fits_within d) (list_all itself (map fits_within ds)) e) around,
    all_decls ds
        (both_right (fits_within d) (list_all itself (map fits_within ds)) e) around,
  )

  pub walked_formed : (base : Types) (modules : List (List ℕ × ℕ)) (s : Scope g.Reported) (m : Module) (b : Block)
      → fits_block b ≡ true → ScopeFormed base s → WalkFormed base (walk_body g elaborates modules ends s m b).0
  walked_formed base modules s m b e h =
      let ds : List Decl = (out-Block b).decls in
      let fit : list_all itself (map fits_within ds) ≡ true = sym (fits_at_block b (out-Block b) refl) ∙ e in
      let d : Declared g.Reported = declared_module g modules ends s m ds in
      bodies_formed base (λ (x : Decl). checks_decl g elaborates ends x None) d.2 ds (all_decls ds fit None) (_, 0)
      (then_two (module_ranged g modules ends s m ds (decls_fit ds fit) h.ranged)
      (module_ordered base g modules ends s m ds h.ordered))

module _ (g : Gathers) (elaborates : Elaborates g.Reported) where
  abbrev TypesFormed : TypedModule → Type 0
  TypesFormed t = AreRanged t.types × AreOrdered t.types

  body_formed : (base : Types) (s : Scope g.Reported) (own : Option Table) (m : Module) (b : Block)
      → fits_block b ≡ true → ScopeFormed base s → Holds TypesFormed (of_body g elaborates s own m b)
  body_formed base s own m b e h =
      let ends : List ℕ = procedure_ends (out-Block b).decls in
      let w = walk_body g elaborates (numbered_modules s.tables).0 ends s m b in
      then_holds (both_holds g (walked_formed g elaborates ends base (numbered_modules s.tables).0 s m b e h)
      (any_holds w.1)) (λ x k. fine _ (k.0.ranged.types, k.0.ordered.types))

  module _ (types_of : ℕ → List Made) (number : ℕ) (m : Module) where
    own_formed : (own : Option Table) (ts : List Table) (b : Block) → fits_block b ≡ true
        → OwnFormed types_of number own → TablesFormed types_of number ts
        → Holds TypesFormed (of_implementation g elaborates m own ts b)
    own_formed None ts b e o p = reported_holds g m.name.pos rule.LonelyModule
    own_formed (Some t) ts b e o p = body_formed (begun_types types_of number t ts o.0 o.1 p)
        (implementation_scope t ts) (Some t) m b e (implementation_formed types_of number t ts o.0 o.1 p)

    contents_formed : (own : Option Table) (ts : List Table) (c : Contents) → fits_contents c ≡ true
        → OwnFormed types_of number own → TablesFormed types_of number ts
        → Holds TypesFormed (of_contents g elaborates number m own ts c)
    contents_formed own ts (contents.Definition ds) e o p = reported_holds g m.name.pos rule.LonelyModule
    contents_formed own ts (contents.Implementation b) e o p = own_formed own ts b e o p
    contents_formed own ts (contents.Program b) e o p =
        body_formed (first_types number ts) (first_scope number ts) None m b e (first_formed types_of number ts p)

    pub checked_formed : (own : Option Table) (ts : List Table) → fits_contents m.contents ≡ true
        → OwnFormed types_of number own → TablesFormed types_of number ts
        → Holds TypesFormed (body_module g elaborates number m own ts)
    checked_formed own ts e o p = contents_formed own (ts ++ console ∷ []) m.contents e o
        (each_more (TableFormed types_of number) ts console p (console_formed types_of number))
