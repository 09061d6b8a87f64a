-- The rules decide what is answered of definitions, programs and implementations.
use Rattle.std.proofs.Common.{◌≡◌, List, [], ℕ, Bool, Option, Some, None, Result, Ok, Err, inl, inr, refl, sym, ap, subst}
use Rattle.m2_rule.specs.declared.breach.Breach.{Breach}
use Rattle.m2_tree.specs.declared.pos.Pos.{Pos}
use Rattle.m2_tree.specs.declared.name.Ident.{Ident}
use Rattle.m2_tree.specs.declared.decl.Block.{Block}
use Rattle.typed_tree.specs.declared.table.Table.{Table}
use Rattle.typed_tree.specs.declared.typed_module.TypedModule.{TypedModule}
use Rattle.typed_tree.specs.declared.known_types.Types.{Types}
use Rattle.typed_tree.specs.declared.types.TypeNo.{TypeNo}
use Rattle.check_scope.specs.Elaborated.{least}
use Rattle.def_typing.specs.Things.{Standing}
use Rattle.def_typing.specs.Imports.{Imported}
use Rattle.def_typing.specs.Declarations.{missing}
use Rattle.def_typing.specs.Bodies.{Place, Reads, reads, LacksHeading}
use Rattle.law_typing.specs.Judging.{the_least}
use Rattle.law_typing.proofs.Gathering.{least_lawful}
use Rattle.law_rules.proofs.Following.{least_associates}
use Rattle.law_rules.specs.Defining as defining
use Rattle.law_rules.specs.Outside.{stands_predeclared, stands_own, stands_exported}
use Rattle.law_rules.proofs.Predeclared.{predeclared_known, predeclared_sound, names_known}
use Rattle.law_rules.proofs.Finding.{least_finds}
use Rattle.law_rules.proofs.Starting.{definitions_answer}
use Rattle.law_rules.proofs.Programs as bodies
use Rattle.law_rules.proofs.Programs.{programs_answer, programs_have_trees}
use Rattle.law_rules.specs.Bodies as exact
use Rattle.law_rules.specs.Bodies.{IsTakenBy, HasNoDefinition, an_implementation}
use Rattle.law_rules.proofs.BodiesImplementing.{implementations_answer, implementations_have_trees, names_around, lonely_refused}
use Rattle.law_rules.specs.Ruled.{with_console, IsAnswered, is_whole, is_refused, is_exported, DefinitionsAreRuled, ProgramsAreRuled, ImplementationsAreRuled, LonelyAreRefused}
use Rattle.law_rules.proofs.ModulesTables.{tables_foreign, own_defined, own_headed, own_listed}

-- ---- what is answered

table_answer : {Is : Table → Type 0} {Breaks : Breach → Type 0} {r : Result Table Breach}
    → defining.IsAnswered least the_least Is Breaks r → IsAnswered Is Breaks r
table_answer (defining.is_table t i n) = is_whole t i n
table_answer (defining.is_refused r c f b) = is_refused r (elim (c.only r refl) [ inl q ↦ q | inr z ↦ absurd z ]) c.each

module_answer : {Is Means : TypedModule → Type 0} {Breaks Broken : Breach → Type 0} {r : Result TypedModule Breach}
    → exact.IsAnswered least the_least Is Breaks r
    → ((t : TypedModule) → r ≡ Ok t → Means t) → ((f : Breach) → Breaks f → Broken f)
    → ((f : Breach) → Broken f → Breaks f) → IsAnswered Means Broken r
module_answer (exact.is_module t i n) h into out = is_whole t (h t refl) (λ f b. n f (out f b))
module_answer (exact.is_refused r c f b) h into out =
    is_refused r (elim (c.only r refl) [ inl q ↦ into r q | inr z ↦ absurd z ]) (λ f b. c.each f (out f b))

-- one refusal, and no other
told : {x : Breach} {r : Result TypedModule Breach} → exact.IsAnswered least the_least (λ t. ⊥) (λ f. f ≡ x) r
    → r ≡ Err x
told (exact.is_module t z n) = absurd z
told (exact.is_refused r c f b) = elim (c.only r refl) [ inl e ↦ ap Err e | inr z ↦ absurd z ]

-- ---- a program has no definition

taken_there : {tables : List Table} {front : List Imported} {n : List ℕ} {b : Bool} → defining.IsTaken tables front n b
    → IsTakenBy tables (is_exported []) front n b
taken_there (defining.by_import o m b) = exact.by_import o m b
taken_there (defining.by_none h) = exact.by_none refl h

none_awaited : {o : Option TypeNo} {t : TypeNo} → o ≡ Some t → o ≡ None → ⊥
none_awaited e h = absurd cc

-- If no heading is awaited, none is lacking.
none_lacks : {exports : ℕ → Ident → Standing} {p : Place} {types end : Types} {b : Block}
    (read : Reads exports p types b end) (at : Pos) (f : Breach) → ((n : List ℕ) → p.awaited n ≡ None)
    → LacksHeading exports read at f → ⊥
none_lacks (reads whole names own order added stand owned bodies) at f h (missing {n = n} e m) = none_awaited e (h n)

-- ---- all modules

pub definitions_ruled : DefinitionsAreRuled
definitions_ruled home m imported defs is =
    let k = names_known least the_least least_lawful home m (with_console imported) in
    let x = definitions_answer least the_least least_lawful least_finds home m imported (with_console imported) refl
    (stands_exported (with_console imported)) stands_predeclared k.0
    (predeclared_known least the_least home (with_console imported)) predeclared_sound k.2 k.1 k.3 defs is in
    record {
      begin = record { names = k.0; taken = k.1; stand = k.2; takes = λ n. taken_there (k.3 n) };
      whole = x.whole;
      last = x.last;
      follow = x.follow;
      only = x.only;
      answered = table_answer x.answered;
    }

pub programs_ruled : ProgramsAreRuled
programs_ruled home m imported others b is =
    let k = names_known least the_least least_lawful home m (with_console imported) in
    let x = programs_answer least the_least least_lawful least_associates bodies.least_finds home m imported
    (with_console imported) refl (tables_foreign home imported others) (stands_exported (with_console imported))
    stands_predeclared k.0 (predeclared_known least the_least home (with_console imported)) predeclared_sound k.2
    k.1 k.3 b is in
    let typed = programs_have_trees least the_least least_lawful least_associates bodies.least_finds (λ r. (r, refl))
    home m imported (with_console imported) refl (tables_foreign home imported others)
    (stands_exported (with_console imported)) stands_predeclared k.0
    (predeclared_known least the_least home (with_console imported)) predeclared_sound k.2 k.1 k.3 b is in
    record {
      begin = record { names = k.0; taken = k.1; stand = k.2; takes = λ n. taken_there (k.3 n) };
      end = x.end;
      read = x.read;
      answered = module_answer x.answered typed (λ f z. elim z [ inl q ↦ inl q | inr q ↦ inr (inl q) ])
          (λ f z. elim z [
            | inl q ↦ inl q
            | inr q ↦ elim q
                [ inl q ↦ inr q | inr l ↦ absurd (none_lacks x.read m.name.pos f (λ n. refl) l) ]
          ]);
    }

pub implementations_ruled : ImplementationsAreRuled
implementations_ruled own m imported w others b is home =
    let d = own_defined own.number own w in
    let k = names_around least the_least least_lawful own m (with_console imported) d
    (stands_exported (with_console imported)) stands_predeclared
    (predeclared_known least the_least own.number (with_console imported)) predeclared_sound in
    let x = implementations_answer least the_least least_lawful least_associates bodies.least_finds own m imported
    (with_console imported) refl d (tables_foreign own.number imported others)
    (stands_exported (with_console imported)) (stands_own own.exported) k.0 k.2 k.3 k.4 k.1 k.5 b is in
    let typed = implementations_have_trees least the_least least_lawful least_associates bodies.least_finds
    (λ r. (r, refl)) own m imported (with_console imported) refl d (own_headed own.number own w)
    (own_listed own.number own w) (tables_foreign own.number imported others)
    (stands_exported (with_console imported)) (stands_own own.exported) k.0 k.2 k.3 k.4 k.1 k.5 b is in
    record {
      begin = record { names = k.0; taken = k.1; stand = k.4; takes = k.5 };
      end = x.end;
      read = x.read;
      answered = module_answer (x.answered home) (typed home) (λ f q. q) (λ f q. q);
    }

pub lonely_ruled : LonelyAreRefused
lonely_ruled home m imported b is = told
    (lonely_refused least the_least least_lawful home m imported (subst HasNoDefinition (sym is) an_implementation))
