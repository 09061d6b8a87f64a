-- What a body comes to, by what is known where it begins.
use Rattle.std.proofs.Common.{◌≡◌, ℕ, Bool, true, false, ◌&&◌, List, [], ◌∷◌, Option, None, Result, Ok, Err, refl, sym, ap, subst, ◌∙◌}
use Rattle.std.specs.Prelude.{map, slice_get}
use Rattle.std.specs.List.{fold, list_all}
use Rattle.std.specs.Option.{unwrap_or}
use Rattle.m2_tree.specs.declared.decl.Module.{Module}
use Rattle.m2_tree.specs.declared.decl.Decl.{Decl, Decl-F, out-Decl, map-Decl, fold_out-Decl}
use Rattle.m2_tree.specs.declared.decl.Decl.TheOpen as layer
use Rattle.m2_tree.specs.declared.decl.Block.{Block, Block-F, out-Block, map-Block, fold_out-Block}
use Rattle.typed_tree.specs.declared.known_types.Types.{Types}
use Rattle.typed_tree.specs.declared.meaning.Meaning.{Meaning}
use Rattle.typed_tree.specs.declared.statement.TypedStmt.{TypedStmt}
use Rattle.typed_tree.specs.declared.table.Table.{Table}
use Rattle.typed_tree.specs.declared.typed_module.TypedModule.{TypedModule}
use Rattle.typed_tree.specs.declared.typed_module.Which.{Which}
use Rattle.check_scope.specs.Elaborated.{Gathers, least, both, ◌▷◌}
use Rattle.check_scope.specs.Scopes.{State}
use Rattle.check_scope.specs.declared.scope.Scope.{Scope}
use Rattle.check_definition.specs.Importing.{with_import}
use Rattle.check_block.specs.Naming.{with_marks}
use Rattle.check_block.specs.Nesting.{procedure_ends}
use Rattle.check_block.specs.Declarations.{Declared, declared_block}
use Rattle.check_body.specs.Routines.{no_bodies, typed_module}
use Rattle.check_body.specs.declared.procedure.Walk.{Walk}
use Rattle.check_body.specs.Elaborating.{Elaborates}
use Rattle.check_body.specs.Bodies.{Checked, ChecksBlock, Steps, marked_by, with_body, begun_from, steps_layer, block_layer, steps, checks_block, checks_decl}
use Rattle.check_body.specs.Checked.{of_body}
use Rattle.check_body.specs.Checks.{elaborate_body}
use Rattle.law_well_formed.specs.FormedScopes.{Leads}
use Rattle.law_well_formed.proofs.ImportsWalks.{walk_keeps}
use Rattle.law_well_formed.specs.FormedBodies.{Keeps}
use Rattle.law_well_formed.proofs.Parts.{AreSteps, nothing_at, no_home, nothing_open, all_marks, all_lead}
use Rattle.law_well_formed.proofs.Checks.{holds_at}
use Rattle.law_well_formed.proofs.BodiesBlocks.{all_keep, checked_reported}
use Rattle.law_well_formed.proofs.Induction.{elaborated_formed}
use Rattle.law_well_formed.proofs.ModulesSteps.{declared_is, bodies_are, total, are_steps}
use Rattle.law_well_formed.specs.FormedRanges.{itself, fits_decl, fits_decl_layer}
use Rattle.law_well_formed.proofs.RangesTypes.{both_left, both_right}
use Rattle.law_well_formed.proofs.RangesBlocks.{module_ranged}
use Rattle.law_well_formed.proofs.Shaped.{tree_shaped}
use Rattle.law_well_formed.proofs.OrderBlocks.{module_ordered}
use Rattle.law_well_formed.specs.FormedKnown.{fits_within_layer, fits_block_layer, fits_within, fits_block}
use Rattle.law_well_formed.proofs.KnownBegins.{ScopeFormed}
use Rattle.law_well_formed.proofs.KnownWalks.{walked_formed}
use Rattle.law_programs.specs.Typing.{TypesTyped}
use Rattle.law_programs.specs.Carried.{TypesIndexed, TablesElsewhere, ScopePlaced, ScopeWords, ScopeSlots, Carries}
use Rattle.law_programs.proofs.Carrying.{indexed_known}
use Rattle.law_programs.proofs.Declaring.{module_carries_on}
use Rattle.law_programs.specs.TypingTables.{BeginsIn, modules_in, decls_in, imported_in, declared_in, walked_in, BodyStands}
use Rattle.law_programs.proofs.Begins.{Stays, import_stays, Starts, module_begins}

-- ---- trees

and_both : (a b : Bool) → a ≡ true → b ≡ true → (a && b) ≡ true
and_both true b h k = k
and_both false b h k = absurd cc

abbrev fit_opened : Decl-F Decl Block → Decl-F Bool Bool
fit_opened x = map-Decl Decl Block Bool Bool fits_within fits_block x

abbrev fit_opened_block : Block-F Decl Block → Block-F Bool Bool
fit_opened_block x = map-Block Decl Block Bool Bool fits_within fits_block x

fits_at : (d : Decl) → fits_within d ≡ fits_within_layer (fit_opened (out-Decl d))
unfolding fits_within fits_block
fits_at d = fold_out-Decl Bool Bool fits_within_layer fits_block_layer d

fits_at_block : (b : Block) → fits_block b ≡ fits_block_layer (fit_opened_block (out-Block b))
unfolding fits_within fits_block
fits_at_block b = fold_out-Block Bool Bool fits_within_layer fits_block_layer b

layer_fits : (x : Decl-F Decl Block) → fits_within_layer (fit_opened x) ≡ true → fits_decl_layer x ≡ true
layer_fits (layer.Constants cs) e = e
layer_fits (layer.Types ts) e = e
layer_fits (layer.Variables vs) e = e
layer_fits (layer.Procedure h b) e = refl

decls_fit : (ds : List Decl) → list_all itself (map fits_within ds) ≡ true → list_all fits_decl ds ≡ true
decls_fit [] e = refl
decls_fit (d ∷ ds) e =
    and_both (fits_decl d) (list_all fits_decl ds)
    (layer_fits (out-Decl d) (sym (fits_at d) ∙ both_left (fits_within d) (list_all itself (map fits_within ds)) e))
    (decls_fit ds (both_right (fits_within d) (list_all itself (map fits_within ds)) e))

block_fits : (b : Block) → fits_block b ≡ true → list_all fits_decl (out-Block b).decls ≡ true
block_fits b e = decls_fit (out-Block b).decls (sym (fits_at_block b) ∙ e)

-- ---- the bodies of procedures leave the variables of the module

module _ (g : Gathers) (elaborates : Elaborates g.Reported) (ends : List ℕ) where
  abbrev opened : Decl-F Decl Block → Decl-F (Steps g.Reported) (ChecksBlock g.Reported)
  opened x = map-Decl Decl Block (Steps g.Reported) (ChecksBlock g.Reported) (steps g elaborates ends)
      (checks_block g elaborates ends) x

  step_is : (d : Decl) → steps g elaborates ends d ≡ steps_layer g elaborates ends (opened (out-Decl d))
  unfolding steps checks_block
  step_is d = fold_out-Decl (Steps g.Reported) (ChecksBlock g.Reported) (steps_layer g elaborates ends)
      (block_layer g elaborates ends) d

  layer_variables : (x : Decl-F Decl Block) (around : Option Which) (seen : ℕ) (w : Walk g.Reported)
      → ((steps_layer g elaborates ends (opened x)).checks around seen w).scope.variables ≡ w.scope.variables
  layer_variables (layer.Constants cs) around seen w = refl
  layer_variables (layer.Types ts) around seen w = refl
  layer_variables (layer.Variables vs) around seen w = refl
  layer_variables (layer.Procedure h b) around seen w = refl

  decl_variables : (d : Decl) (around : Option Which) (seen : ℕ) (w : Walk g.Reported)
      → (checks_decl g elaborates ends d around seen w).scope.variables ≡ w.scope.variables
  decl_variables d around seen w = ap (λ (x : Steps g.Reported). (x.checks around seen w).scope.variables) (step_is d)
      ∙ layer_variables (out-Decl d) around seen w

  bodies_variables : (seen : List ℕ) (ds : List Decl) (st : Walk g.Reported × ℕ)
      → (fold (with_body (λ d. checks_decl g elaborates ends d None) seen) st ds).0.scope.variables
      ≡ st.0.scope.variables
  bodies_variables seen [] st = refl
  bodies_variables seen (d ∷ ds) st = bodies_variables seen ds
      (with_body (λ d. checks_decl g elaborates ends d None) seen st d)
      ∙ decl_variables d None (unwrap_or (slice_get seen st.1) 0) st.0

-- ---- a walk over a module

parts_of : (g : Gathers) (a : Result (Unit {0}) g.Reported) (r : Result (List TypedStmt) g.Reported)
    (f : List TypedStmt → TypedModule) (t : TypedModule) → (both g a r ▷ λ p. Ok (f p.1)) ≡ Ok t → (a ≡ Ok tt)
    × ((ys : List TypedStmt) × ((r ≡ Ok ys) × (f ys ≡ t)))
parts_of g (Ok u) (Ok ys) f t e = (refl, (ys, (refl, cc)))
parts_of g (Ok u) (Err x) f t e = absurd cc
parts_of g (Err x) (Ok ys) f t e = absurd cc
parts_of g (Err x) (Err y) f t e = absurd cc

-- what is known where a body begins
pub record Ready (base : Types) (es : List (List ℕ × Meaning)) (s : Scope least.Reported) : Type 0 where
  pub formed : ScopeFormed base s
  pub starts : Starts s es
  pub elsewhere : TablesElsewhere s.types.home s.tables
  pub words : ScopeWords s
  pub placed : ScopePlaced s
  pub slots : ScopeSlots None s

module _ (s : Scope least.Reported) (m : Module) (b : Block) where
  abbrev ends : List ℕ
  ends = procedure_ends (decls_in b)

  abbrev d : Declared least.Reported
  d = declared_in s m b

  abbrev w : Checked least.Reported
  w = walked_in s m b

  abbrev start : Walk least.Reported
  start = begun_from d (no_bodies d.0.procedures)

  abbrev ps : AreSteps least (elaborate_body least) ends (map (steps least (elaborate_body least) ends) (decls_in b))
      (total least (elaborate_body least) (elaborated_formed least) ends (decls_in b))
  ps = are_steps least (elaborate_body least) (elaborated_formed least) ends (decls_in b)

  declared_ok : w.0.so_far ≡ Ok tt → d.1 ≡ Ok tt
  declared_ok e =
      checked_reported least (elaborate_body least) ends None d.2 ps (start, 0)
      (sym (ap (λ (w : Walk least.Reported). w.so_far)
      (bodies_are least (elaborate_body least) (elaborated_formed least) ends None d.2 start (decls_in b))) ∙ e)

  walk_grows : Keeps d.0 w.0.scope
  walk_grows =
      subst (λ (w : Walk least.Reported). Keeps d.0 w.scope)
      (sym (bodies_are least (elaborate_body least) (elaborated_formed least) ends None d.2 start (decls_in b)))
      (all_keep least (elaborate_body least) ends None d.2 ps (start, 0))

  block_outer : (st : State (Unit {0}) least.Reported)
      → (declared_block least ends st 0 (decls_in b)).0.outer ≡ st.0.outer
  block_outer st =
      let marks : Scope least.Reported × List ℕ =
      fold (with_marks marked_by) (st.0, []) (map (steps least (elaborate_body least) ends) (decls_in b)) in
      let other : TypedModule = nothing_at marks.0.types.home in
      let one : Leads other nothing_open st.0 marks.0 =
      all_marks least (elaborate_body least) ends other nothing_open ps (st.0, []) in
      let two = all_lead least (elaborate_body least) ends other nothing_open ps (marks.0, st.1, 0)
      (no_home marks.0.types.home) in
      ap (λ (d : Declared least.Reported). d.0.outer)
      (declared_is least (elaborate_body least) (elaborated_formed least) ends st 0 (decls_in b))
      ∙ (two.outer ∙ one.outer)

  module _ (base : Types) (es : List (List ℕ × Meaning)) (ready : Ready base es s) (fit : fits_block b ≡ true) where
    carried : Carries s d.0
    carried = module_carries_on least (modules_in s) ends s m (decls_in b) ready.elsewhere

    outer_is : d.0.outer ≡ s.outer
    outer_is = let k : Stays s (imported_in s m) = import_stays least (modules_in s) m.imports (s, Ok tt) in
        block_outer (fold (with_import least (modules_in s)) (s, Ok tt) m.imports) ∙ k.outer

    walk_formed : w.0.so_far ≡ Ok tt → ScopeFormed base w.0.scope
    walk_formed e = holds_at w.0.so_far (walked_formed least (elaborate_body least) ends base (modules_in s) s m b fit
        ready.formed) tt e

    types_typed : w.0.so_far ≡ Ok tt → TypesIndexed w.0.scope.types → TypesTyped w.0.scope.types
    types_typed e i =
        let f : ScopeFormed base w.0.scope = walk_formed e in
        record {
          ranged = f.ranged.types;
          own = f.ranged.own;
          others = f.ranged.others;
          trees = tree_shaped w.0.scope.types f.ordered.types;
          indexed = indexed_known w.0.scope.types i;
        }

    walk_stands : (job : ℕ) (ts : List Table) (own : Option Table) (ys : List TypedStmt) → BeginsIn m job ts s b
        → w.0.so_far ≡ Ok tt → w.1 ≡ Ok ys → TypesIndexed w.0.scope.types
        → BodyStands m job ts (typed_module w.0.scope (modules_in s) own m w.0.bodies ys)
    walk_stands job ts own ys begun e q i =
        let ok : d.1 ≡ Ok tt = declared_ok e in
        record {
          scope = s;
          block = b;
          base = base;
          begun = begun;
          begins = module_begins least (modules_in s) m.imports s es ready.starts;
          reported = e;
          body = q;
          types = refl;
          variables = bodies_variables least (elaborate_body least) ends d.2 (decls_in b) (start, 0);
          procedures = refl;
          locals = refl;
          order = refl;
          home = ap (λ (p : List Table × ℕ). p.1) (walk_keeps least (elaborate_body least) ends (modules_in s) s m b);
          same_home = carried.home;
          grows = λ u x q. walk_grows.types u x q;
          level = carried.level ∙ ready.starts.level;
          tables = carried.tables;
          outer = outer_is ∙ ready.starts.outer;
          known = record {
            ranged = holds_at d.1 (module_ranged least (modules_in s) ends s m (decls_in b) (block_fits b fit)
                ready.formed.ranged) tt ok;
            ordered = holds_at d.1 (module_ordered base least (modules_in s) ends s m (decls_in b) ready.formed.ordered)
                tt ok;
            words = carried.words ready.words;
          };
          placed = carried.placed ready.placed;
          slots = carried.slots None ready.starts.level ready.slots;
          elsewhere = ready.elsewhere;
          typed = types_typed e i;
        }

    pub body_stands : (job : ℕ) (ts : List Table) (own : Option Table) (t : TypedModule) → BeginsIn m job ts s b
        → of_body least (elaborate_body least) s own m b ≡ Ok t → TypesIndexed t.types → BodyStands m job ts t
    body_stands job ts own t begun e i =
        let k = parts_of least w.0.so_far w.1 (λ ys. typed_module w.0.scope (modules_in s) own m w.0.bodies ys) t e in
        subst (λ (t : TypedModule). BodyStands m job ts t) k.1.1.1
        (walk_stands job ts own k.1.0 begun k.0 k.1.1.0
        (subst (λ (t : TypedModule). TypesIndexed t.types) (sym k.1.1.1) i))
