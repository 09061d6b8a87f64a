-- What is reported of a module behind what is known where its imports stand.
use Rattle.std.proofs.Common.{◌≡◌, ℕ, Bool, List, Option, None, Result, Ok, Err, ◌⊎◌, inl, inr, refl, sym, ap, subst, ◌∙◌}
use Rattle.m2_rule.specs.declared.breach.Breach.{Breach}
use Rattle.m2_tree.specs.declared.name.Ident.{Ident}
use Rattle.m2_tree.specs.declared.decl.Heading.{Heading}
use Rattle.m2_tree.specs.declared.decl.Decl.{Decl, out-Decl}
use Rattle.m2_tree.specs.declared.decl.Decl.TheOpen as layer
use Rattle.m2_tree.specs.declared.decl.Block.{Block, out-Block}
use Rattle.m2_tree.specs.declared.decl.Module.{Module}
use Rattle.typed_tree.specs.declared.statement.TypedStmt.{TypedStmt}
use Rattle.typed_tree.specs.declared.table.Table.{Table}
use Rattle.typed_tree.specs.declared.typed_module.TypedModule.{TypedModule}
use Rattle.typed_tree.specs.declared.known_types.Types.{Types}
use Rattle.check_scope.specs.declared.scope.Scope.{Scope}
use Rattle.check_scope.specs.Elaborated.{Gathers, both, beside, ◌▷◌}
use Rattle.check_definition.specs.Importing.{numbered_modules}
use Rattle.check_block.specs.Nesting.{procedure_ends}
use Rattle.check_block.specs.Declarations.{Declared, declared_block, reported_of_lack}
use Rattle.check_body.specs.declared.procedure.Walk.{Walk}
use Rattle.check_body.specs.Inside.{reported_in}
use Rattle.check_body.specs.Bodies.{Checked, with_statements, bodies_checked}
use Rattle.check_body.specs.Checks.{elaborate_body}
use Rattle.check_body.specs.Checked.{module_or, of_body}
use Rattle.check_body.specs.Routines.{no_bodies, typed_module}
use Rattle.def_typing.specs.Things.{Standing}
use Rattle.def_typing.specs.Parts.{Among}
use Rattle.def_typing.specs.Imports as imports
use Rattle.def_typing.specs.Imports.{all_imported}
use Rattle.def_typing.specs.Declarations.{Lacks}
use Rattle.def_typing.specs.Bodies.{Place, Reads, BrokenBlock}
use Rattle.law_typing.specs.Judging.{Judges, Accounts}
use Rattle.law_typing.specs.Exact.{Repeats, AreOnce, is_nested}
use Rattle.law_typing.proofs.Combining.{Lawful, Tells, silent, tells, tells_as, beside_tells}
use Rattle.law_rules.specs.Importing.{imported_all, AreImportsExact}
use Rattle.law_rules.proofs.Following.{Associates, block_moves}
use Rattle.law_rules.specs.Blocks.{KnowsPlace}
use Rattle.law_rules.specs.Bodies.{IsTyped}
use Rattle.law_rules.proofs.Whole.{more_tells, told, blocks_done, Turn, of_block, whole, block, sd, Else, declared_refused, last, walked, walk_there, Said, statements_refused, is_read, block_meant}
use Rattle.law_rules.proofs.Meant.{Finds, beside_fine, never_broken, Starts, IsMeant}

one_body : {R : Type 0} {xs ys : List TypedStmt} → ◌≡◌ {A = Result (List TypedStmt) R} (Ok xs) (Ok ys) → xs ≡ ys
one_body e = cc e

-- a module that is answered
both_answered : (g : Gathers) (of : List TypedStmt → TypedModule) (a : Result (Unit {0}) g.Reported)
    (x : Result (List TypedStmt) g.Reported) {t : TypedModule}
    → both g a x ▷ (λ p. Ok (of p.1)) ≡ Ok t → (a ≡ Ok tt) × (xs : List TypedStmt) × (x ≡ Ok xs) × (t ≡ of xs)
both_answered g of (Ok u) (Ok xs) {t = t} e = (refl, xs, refl, same e)
  where
    same : {R : Type 0} {a b : TypedModule} → ◌≡◌ {A = Result TypedModule R} (Ok a) (Ok b) → b ≡ a
    same e = cc e
both_answered g of (Ok u) (Err y) e = absurd cc
both_answered g of (Err y) (Ok xs) e = absurd cc
both_answered g of (Err y) (Err z) e = absurd cc

module _ (g : Gathers) (j : Judges g) (lawful : Lawful g j) where
  -- a module, or what is reported
  pub data Moduled (Is : TypedModule → Type 0) (B : Breach → Type 0) : Result TypedModule g.Reported → Type 0 where
    a_module : (t : TypedModule) → Is t → ((f : Breach) → B f → ⊥) → Moduled Is B (Ok t)
    a_refusal : (r : g.Reported) → Accounts g j (λ f. ⊥) B r → Moduled Is B (Err r)

  module_by : {Is : TypedModule → Type 0} {B : Breach → Type 0} (of : List TypedStmt → TypedModule)
      → ((xs : List TypedStmt) → Is (of xs))
      → (a : Result (Unit {0}) g.Reported) (x : Result (List TypedStmt) g.Reported)
      → Tells g j lawful (λ f. ⊥) B (beside g a (reported_in x)) → Moduled Is B (both g a x ▷ λ p. Ok (of p.1))
  module_by of i (Ok u) (Ok xs) (silent n) = a_module (of xs) (i xs) n
  module_by of i (Ok u) (Err e) (tells _ a) = a_refusal e a
  module_by of i (Err e) (Ok xs) (tells _ a) = a_refusal e a
  module_by of i (Err e) (Err r) (tells _ a) = a_refusal (g.join e r) a

module _ (g : Gathers) (j : Judges g) (lawful : Lawful g j) (associates : Associates g) (exports : ℕ → Ident → Standing)
    (m : Module) (s : Scope g.Reported) (mine : List ℕ → Bool) (i : AreImportsExact g j mine s m.imports)
    (p : Place) (at : KnowsPlace g j exports p (record s { own = (imported_all g s m.imports).0.own }) None)
    (once : AreOnce (imported_all g s m.imports).0.own)
    (sound : (f : Breach) → Repeats g j p.names (record s { own = (imported_all g s m.imports).0.own }) f → ⊥)
    (b : Block)
    (own_table : Option Table) where
  abbrev pub start : Scope g.Reported
  start = record s { own = (imported_all g s m.imports).0.own }

  abbrev pub ds : List Decl
  ds = (out-Block b).decls

  abbrev pub ends : List ℕ
  ends = procedure_ends ds

  abbrev pub modules : List (List ℕ × ℕ)
  modules = (numbered_modules s.tables).0

  abbrev said_of_imports : Result (Unit {0}) g.Reported
  said_of_imports = (imported_all g s m.imports).1

  abbrev pub inner : (d : Decl) (h : Heading) (c : Block) → Among d ds → out-Decl d ≡ layer.Procedure h c
      → Turn g j lawful associates exports c
  inner d h c n e = blocks_done g j lawful associates exports c

  -- ---- from a scope behind the imports

  abbrev pub declared_from : Scope g.Reported → Declared g.Reported
  declared_from x = declared_block g ends (x, said_of_imports) 0 ds

  abbrev pub begun_from : Scope g.Reported → Walk g.Reported
  begun_from x = record {
    scope = (declared_from x).0;
    so_far =
        beside g (declared_from x).1 (reported_of_lack g m.name.pos (declared_from x).0);
    bodies =
        no_bodies (declared_from x).0.procedures;
  }

  abbrev pub checked_from : Scope g.Reported → Checked g.Reported
  checked_from x = with_statements (elaborate_body g) None (out-Block b).body
      (bodies_checked g (elaborate_body g) ends None (declared_from x).2 (begun_from x) ds)

  abbrev module_from : Scope g.Reported → Result TypedModule g.Reported
  module_from x = module_or g modules own_table m (checked_from x)

  body_is : of_body g (elaborate_body g) s own_table m b ≡ module_from (imported_all g s m.imports).0
  body_is = refl

  pub moved : ((declared_from start).0 ≡ sd g j lawful associates exports b inner p start None at ends None 0)
      × ((declared_from start).1 ≡ beside g said_of_imports (declared_block g ends (start, Ok tt) 0 ds).1)
  moved = block_moves g associates said_of_imports ends start 0 ds

  -- ---- what is reported

  abbrev pub read_from : Types
  read_from = (last g j lawful associates exports b inner p start None at ends None 0 (begun_from start)
      moved.0).scope.types

  abbrev pub module_read : Reads exports (record p { nested = is_nested start }) start.types b read_from
  module_read = is_read g j lawful associates exports b inner p start None at ends None 0 (begun_from start) moved.0

  abbrev pub LacksHere : Breach → Type 0
  LacksHere = Lacks start.types exports p.names p.taken p.awaited (is_nested start)
      (block g j lawful associates exports b inner p start None at ends None 0) m.name.pos
      (whole g j lawful associates exports b inner p start None at ends None 0)

  abbrev pub Breaks : Breach → Type 0
  Breaks f = imports.BrokenIn s.tables mine (all_imported m.imports) f
      ⊎ (BrokenBlock exports module_read f ⊎ LacksHere f)

  abbrev U : Breach → Type 0
  U = Else g j lawful associates exports b inner p start None at ends None 0

  imports_told : Tells g j lawful U (imports.BrokenIn s.tables mine (all_imported m.imports)) said_of_imports
  imports_told = more_tells g j lawful (λ f z. absurd z) (told g j lawful i.reported)

  lack_told : Tells g j lawful U LacksHere (reported_of_lack g m.name.pos (declared_from start).0)
  lack_told = subst (λ (x : Scope g.Reported). Tells g j lawful U LacksHere (reported_of_lack g m.name.pos x))
      (sym moved.0) (more_tells g j lawful (λ f z. absurd z)
      (told g j lawful ((of_block g j lawful associates exports b inner p start None at ends None 0).lack once
      m.name.pos)))

  abbrev Total : Result (Unit {0}) g.Reported
  Total = beside g (last g j lawful associates exports b inner p start None at ends None 0 (begun_from start)
      moved.0).so_far (reported_in (Said g j lawful associates exports b inner p start None at ends None 0
      (begun_from start) moved.0))

  all_told : Tells g j lawful U Breaks Total
  all_told = subst (λ (r : Result (Unit {0}) g.Reported). Tells g j lawful U Breaks
      (beside g r (reported_in (Said g j lawful associates exports b inner p start None at ends None 0
      (begun_from start) moved.0))))
      (sym ((walked g j lawful associates exports b inner p start None at ends None 0 (begun_from start) moved.0).sum
      ∙ ap (λ (r : Result (Unit {0}) g.Reported). beside g
      (beside g r (reported_of_lack g m.name.pos (declared_from start).0))
      (walked g j lawful associates exports b inner p start None at ends None 0 (begun_from start) moved.0).said)
      moved.1))
      (tells_as g j lawful U
      (λ f z. elim z [
        | inl y ↦ elim y [
          | inl x ↦ elim x [
            | inl w ↦ elim w [
              | inl a ↦ inl a
              | inr v ↦ elim v [ inl a ↦ inr (inl (inl a)) | inr a ↦ inr (inl (inr (inl a))) ]
            ]
            | inr a ↦ inr (inr a)
          ]
          | inr a ↦ inr (inl (inr (inr (inl a))))
        ]
        | inr a ↦ inr (inl (inr (inr (inr a))))
      ])
      (λ f z. elim z [
        | inl a ↦ inl (inl (inl (inl a)))
        | inr y ↦ elim y [
          | inl x ↦ elim x [
            | inl a ↦ inl (inl (inl (inr (inl a))))
            | inr v ↦ elim v [
              | inl a ↦ inl (inl (inl (inr (inr a))))
              | inr w ↦ elim w [ inl a ↦ inl (inr a) | inr a ↦ inr a ]
            ]
          ]
          | inr a ↦ inl (inl (inr a))
        ]
      ])
      (beside_tells g j lawful U (beside_tells g j lawful U
      (beside_tells g j lawful U (beside_tells g j lawful U imports_told
      (declared_refused g j lawful associates exports b inner p start None at ends None 0)) lack_told)
      (walk_there g j lawful associates exports b inner p start None at ends None 0 (begun_from start) moved.0).1)
      (statements_refused g j lawful associates exports b inner p start None at ends None 0 (begun_from start)
      moved.0)))

  -- Nothing is repeated from outside.
  none_else : {r : Result (Unit {0}) g.Reported} → Tells g j lawful U Breaks r → Tells g j lawful (λ f. ⊥) Breaks r
  none_else (silent n) = silent n
  none_else (tells r a) = tells r (record {
    only = λ f q. elim (a.only f q) [
      | inl c ↦ inl c
      | inr o ↦ elim o
          [ inl x ↦ elim x [ inl y ↦ absurd (sound f y) | inr y ↦ elim y [ ] ] | inr c ↦ inl (inr (inl (inl c))) ]
    ];
    each =
        a.each;
  })

  pub module_told : Moduled g j lawful (IsTyped m read_from) Breaks (of_body g (elaborate_body g) s own_table m b)
  module_told = subst (λ (x : Scope g.Reported). Moduled g j lawful (IsTyped m read_from) Breaks (module_from x))
      (sym i.rest)
      (module_by g j lawful (λ xs. typed_module
      (last g j lawful associates exports b inner p start None at ends None 0 (begun_from start) moved.0).scope
      modules own_table m (checked_from start).0.bodies xs)
      (λ xs. record { of_name = refl; of_types = refl })
      (last g j lawful associates exports b inner p start None at ends None 0 (begun_from start) moved.0).so_far
      (Said g j lawful associates exports b inner p start None at ends None 0 (begun_from start) moved.0)
      (none_else all_told))

  -- ---- what it means

  abbrev pub P : Place
  P = record p { nested = is_nested start }

  pub record IsModuleMeant (t : TypedModule) : Type 0 where
    pub block : IsMeant g j exports P start (no_bodies (declared_from start).0.procedures) ends None module_read (
      last g j lawful associates exports b inner p start None at ends None 0 (begun_from start) moved.0,
      Said g j
          lawful associates exports b inner p start None at ends None 0 (begun_from start) moved.0,
    )
    pub fine : (declared_block g ends (start, Ok tt) 0 ds).1 ≡ Ok tt
    pub lacks : (f : Breach) → LacksHere f → ⊥
    pub is : t ≡ typed_module (last g j lawful associates exports b inner p start None at ends None 0 (begun_from start)
        moved.0).scope modules own_table m (last g j lawful associates exports b inner p start None at ends None 0
        (begun_from start) moved.0).bodies block.body

  abbrev of_statements : List TypedStmt → TypedModule
  of_statements xs = typed_module (last g j lawful associates exports b inner p start None at ends None 0
      (begun_from start) moved.0).scope modules own_table m
      (last g j lawful associates exports b inner p start None at ends None 0 (begun_from start) moved.0).bodies xs

  module _ (finds : Finds g j) (st : Starts g j exports P start 0 None ends ds) (t : TypedModule)
      (e : of_body g (elaborate_body g) s own_table m b ≡ Ok t) where
    is_answer : module_from start ≡ Ok t
    is_answer = ap module_from (sym i.rest) ∙ e

    answer : ((last g j lawful associates exports b inner p start None at ends None 0 (begun_from start) moved.0).so_far
        ≡ Ok tt) × (xs : List TypedStmt) × (Said g j lawful associates exports b inner p start None at ends None 0
        (begun_from start) moved.0 ≡ Ok xs) × (t ≡ of_statements xs)
    answer = both_answered g of_statements
        (last g j lawful associates exports b inner p start None at ends None 0 (begun_from start) moved.0).so_far
        (Said g j lawful associates exports b inner p start None at ends None 0 (begun_from start) moved.0) is_answer

    nothing_said : ((begun_from start).so_far ≡ Ok tt)
        × ((walked g j lawful associates exports b inner p start None at ends None 0 (begun_from start) moved.0).said
        ≡ Ok tt)
    nothing_said = beside_fine g (begun_from start).so_far
        (walked g j lawful associates exports b inner p start None at ends None 0 (begun_from start) moved.0).said
        (sym (walked g j lawful associates exports b inner p start None at ends None 0 (begun_from start) moved.0).sum
        ∙ answer.0)

    nothing_declared : ((declared_from start).1 ≡ Ok tt)
        × (reported_of_lack g m.name.pos (declared_from start).0 ≡ Ok tt)
    nothing_declared = beside_fine g (declared_from start).1 (reported_of_lack g m.name.pos (declared_from start).0)
        nothing_said.0

    nothing_imported : (said_of_imports ≡ Ok tt) × ((declared_block g ends (start, Ok tt) 0 ds).1 ≡ Ok tt)
    nothing_imported = beside_fine g said_of_imports (declared_block g ends (start, Ok tt) 0 ds).1
        (sym moved.1 ∙ nothing_declared.0)

    its_block : IsMeant g j exports P start (no_bodies (declared_from start).0.procedures) ends None module_read (
      last g j lawful associates exports b inner p start None at ends None 0 (begun_from start) moved.0,
      Said g j
          lawful associates exports b inner p start None at ends None 0 (begun_from start) moved.0,
    )
    its_block = block_meant g j lawful associates exports b inner p start None at ends None 0 (begun_from start) moved.0
        finds st nothing_imported.1 nothing_said.1 refl answer.1 answer.2

    same_body : answer.1 ≡ its_block.body
    same_body = one_body (sym answer.2 ∙ its_block.is_body)

    pub module_meant : IsModuleMeant t
    module_meant = record {
      block = its_block;
      fine = nothing_imported.1;
      lacks = λ f l. never_broken g j lawful lack_told nothing_declared.1 f l;
      is = answer.3 ∙ ap of_statements same_body;
    }
