-- The typed tree of a block: the types of its variables, its procedures with all that stands in
-- them, and its statements.
use Rattle.std.specs.Prelude.{◌≡◌, ℕ, ◌+◌, ◌==◌, Bool, true, false, List, [], ◌∷◌, ◌++◌, length, Option, Some, None}
use Rattle.m2_tree.specs.declared.name.Ident.{Ident}
use Rattle.m2_tree.specs.declared.decl.Heading.{Heading}
use Rattle.m2_tree.specs.declared.decl.Decl.{Decl, Decl-F, out-Decl}
use Rattle.m2_tree.specs.declared.decl.Block.{Block, out-Block}
use Rattle.typed_tree.specs.declared.types.TypeNo.{TypeNo}
use Rattle.typed_tree.specs.declared.known_types.Types.{Types}
use Rattle.typed_tree.specs.declared.meaning.Meaning.{Meaning}
use Rattle.typed_tree.specs.declared.statement.TypedStmt.{TypedStmt}
use Rattle.typed_tree.specs.declared.typed_module.Routine.{Routine}
use Rattle.typed_tree.specs.declared.typed_module.Which.{Which}
use Rattle.typed_tree.specs.declared.typed_module.Which.TheVariants as which
use Rattle.def_typing.specs.Things.{AVariable, Standing, Known}
use Rattle.def_typing.specs.Declarations.{Declaration, declarations_of, names_in}
use Rattle.def_typing.specs.Bodies.{Place, statements_in, body_spot, Reads, reads, ReadsBodies, no_more, no_body, a_body}
use Rattle.def_typed.specs.Named.{Named, Procedure, Nested, named, Senses}
use Rattle.def_typed.specs.Statements.{Site, AllMean}
use Rattle.def_typed.specs.Numbers.{variables_in, next_nested, next_inside}
use Rattle.def_typed.specs.Blocks.{Before, MeansBehind, MeansInside}

-- ---- procedures

-- which procedure it is, and its heading as a type
abbrev pub routine_of : Option Named → Option (Which × TypeNo)
routine_of (Some (Procedure p)) = Some (which.Module p.number, p.heading)
routine_of (Some (Nested p)) = Some (which.Local p.number, p.heading)
routine_of other = None

-- the procedures of declarations, with all that stand in them
pub record Routines : Type 0 where
  -- those of the module, by their numbers
  pub procedures : List (ℕ × Routine)
  -- those in procedures, in the order of their headings
  pub locals : List Routine
  -- all, in the order in which their bodies end
  pub order : List Which

abbrev pub no_routines : Routines
no_routines = record { procedures = []; locals = []; order = [] }

-- a procedure, with those within it and those behind it
abbrev pub with_routine : Which → Routine → (within behind : Routines) → Routines
with_routine (which.Module n) r within behind = record {
  procedures = within.procedures ++ (n, r) ∷ behind.procedures;
  locals = within.locals ++ behind.locals;
  order = within.order ++ which.Module n ∷ behind.order;
}
with_routine (which.Local n) r within behind = record {
  procedures = within.procedures ++ behind.procedures;
  locals = r ∷ (within.locals ++ behind.locals);
  order = within.order ++ which.Local n ∷ behind.order;
}

-- In a module the procedures in a procedure are numbered on from where the count stands, and in a
-- procedure from behind its own number.
abbrev pub first_within : (outermost : Bool) → ℕ → ℕ
first_within true n = n
first_within false n = n + 1

abbrev pub next_number : (outermost : Bool) → ℕ → Decl-F Decl Block → ℕ
next_number true n d = next_inside n d
next_number false n d = next_nested n d

-- where the block of a procedure begins: its formals are its first variables
abbrev pub before_body : Before → Heading → (first : ℕ) → (Ident → Option Meaning) → Before
before_body q h first of_names = record {
  home = q.home;
  level = q.level + 1;
  variables = length (names_in h.formals);
  procedures = 0;
  nested = first;
  of_names = of_names;
}

-- ---- blocks

-- the types of variables, by what their names stand for
pub data HaveTypes (names : Ident → Standing) : List Ident → List TypeNo → Type 0 where
  no_variable : HaveTypes names [] []
  one_variable : {x : Ident} {xs : List Ident} {t : TypeNo} {ts : List TypeNo}
      → names x ≡ Known (AVariable t) → HaveTypes names xs ts
      → HaveTypes names (x ∷ xs) (t ∷ ts)

module _ (exports : ℕ → Ident → Standing) where
  -- what is known where the block of a procedure begins, by what names mean around it
  pub record IsEntered (q : Before) (seen : Ident → Standing) (of_names : Ident → Option Meaning)
      (n : ℕ) (h : Heading) : Type 0 where
    pub which : Which
    pub heading : TypeNo
    pub is_routine : routine_of (named q.level (of_names h.name)) ≡ Some (which, heading)
    -- what names mean in it
    pub inside : Ident → Option Meaning
    pub means : (name : Ident)
        → MeansInside exports seen of_names (q.level + 1) h name (inside name)

  abbrev pub before_entered : {q : Before} {seen : Ident → Standing}
      {of_names : Ident → Option Meaning} {n : ℕ} {h : Heading}
      → IsEntered q seen of_names n h → Before
  before_entered {q = q} {n = n} {h = h} x =
      before_body q h (first_within (q.level == 0) n) x.inside

-- where the statements of a block stand
abbrev pub body_site : Place → (names : Ident → Standing) → (own : Ident → Bool) → Senses → Site
body_site p names own senses =
    record { spot = body_spot p names own; senses = senses; withs = 0 }

-- by what modules export, and what that means
module _ (exports : ℕ → Ident → Standing) (of_exports : ℕ → Ident → Option Meaning) where
  abbrev pub senses_at : Before → (Ident → Option Meaning) → Senses
  senses_at q of_names =
      record { level = q.level; of_names = of_names; of_exports = of_exports }

  abbrev mutual
    -- A block that is read has these procedures, variables of these types, and these statements.
    pub MeansBlock : {p : Place} {types end : Types} {b : Block} → Reads exports p types b end
        → Before → (around : Option Which) → Routines → List TypeNo → List TypedStmt → Type 0
    MeansBlock {p = p} {end = end} {b = b} (reads whole names own order added stand owned bodies)
        q around rs vs xs =
        (of_names : Ident → Option Meaning)
        × ((name : Ident)
        → MeansBehind q p.taken p.awaited names (out-Block b).decls name (of_names name))
        × HaveTypes names (variables_in (declarations_of (out-Block b).decls)) vs
        × MeansBodies bodies q of_names around q.nested rs
        × AllMean end exports (body_site p names own (senses_at q of_names))
        (statements_in (out-Block b).body) xs

    -- So are its procedures, one behind the other. Procedures in procedures are numbered from n.
    pub MeansBodies : {p : Place} {block front : List Declaration} {names : Ident → Standing}
        {own : Ident → Bool} {types end : Types} {ds : List Decl}
        → ReadsBodies exports p block names own front types ds end → Before
        → (Ident → Option Meaning) → (around : Option Which) → (n : ℕ) → Routines → Type 0
    MeansBodies no_more q of_names around n rs = rs ≡ no_routines
    MeansBodies (no_body i rest) q of_names around n rs = MeansBodies rest q of_names around n rs
    MeansBodies (a_body {d = d} {h = h} seen inside gives e s i r body rest) q of_names around n
        rs =
        (x : IsEntered exports q seen of_names n h) × (within : Routines) × (behind : Routines)
        × (vs : List TypeNo) × (xs : List TypedStmt)
        × MeansBlock body (before_entered exports x) (Some x.which) within vs xs
        × MeansBodies rest q of_names around (next_number (q.level == 0) n (out-Decl d)) behind
        × (rs
        ≡ with_routine x.which
        (record {
          pos = h.name.pos;
          heading = x.heading;
          level = q.level + 1;
          around = around;
          variables = vs;
          body = xs;
        }) within behind)
