-- Procedures and their bodies: what names stand for inside them, and which rules are broken in a
-- block and in all that stands in it.
use Rattle.std.specs.Prelude.{◌≡◌, ◌⊎◌, ℕ, Bool, true, false, not, ◌&&◌, ◌||◌, cond, List, [], ◌∷◌, ◌++◌, Option, Some, None}
use Rattle.std.specs.List.{list_any}
use Rattle.std.specs.Option.{is_some}
use Rattle.m2_rule.specs.declared.breach.Breach.{Breach}
use Rattle.m2_tree.specs.declared.pos.Pos.{Pos}
use Rattle.m2_tree.specs.declared.name.Ident.{Ident}
use Rattle.m2_tree.specs.declared.stmt.Stmt.{Stmt}
use Rattle.m2_tree.specs.declared.decl.Section.{Section}
use Rattle.m2_tree.specs.declared.decl.Heading.{Heading}
use Rattle.m2_tree.specs.declared.decl.Decl.{Decl, Decl-F, out-Decl}
use Rattle.m2_tree.specs.declared.decl.Decl.TheOpen as layer
use Rattle.m2_tree.specs.declared.decl.Block.{Block, out-Block}
use Rattle.typed_tree.specs.declared.types.TypeNo.{TypeNo}
use Rattle.typed_tree.specs.declared.known_types.Types.{Types}
use Rattle.def_typing.specs.Things.{Thing, AVariable, AnOpenArray, AProcedure, ANested, Headless, Standing, Known, Undeclared, Unknown}
use Rattle.def_typing.specs.Parts.{Among}
use Rattle.def_typing.specs.TypeNames.{NamesType}
pub use Rattle.def_typing.specs.Seen.{IsProcedure, of_module, of_procedure, headless, Sees, in_front, a_procedure, not_yet}
use Rattle.def_typing.specs.Again.{BrokenAgain}
use Rattle.def_typing.specs.Headings.{GivesBack}
use Rattle.def_typing.specs.Returns.{Giving, Nothing, AResult, AnyResult}
use Rattle.def_typing.specs.Declarations.{Declaration, names_of, constants_of, declared_by, declarations_of, AnyDeclares, Declared, in_order, types_behind, is_among, AllAdded, AllStand, IsOwn, Lacks, BrokenIn}
use Rattle.def_typing.specs.Statements.{Spot, Broken}

-- ---- names

-- the first section of formals with this name
abbrev pub formal_named : List ℕ → List Section → Option Section
formal_named n [] = None
formal_named n (x ∷ xs) = cond (is_among n x.names) (Some x) (formal_named n xs)

abbrev pub is_formal : List ℕ → Heading → Bool
is_formal n h = is_some (formal_named n h.formals)

abbrev pub formal : (is_open : Bool) → TypeNo → Thing
formal true t = AnOpenArray t
formal false t = AVariable t

abbrev pub is_declared : List ℕ → List Declaration → Bool
is_declared n ds = list_any (λ d. is_among n (names_of d ++ constants_of d)) ds

-- block: the declarations of the block around; front: the ones in front of the procedure; names:
-- what names stand for behind all declarations of the block.
abbrev pub SeenAs : (taken : List ℕ → Bool) → (block front : List Declaration)
    → (names : Ident → Standing) → Ident → Standing → Type 0
SeenAs taken block front names = Sees taken block (AnyDeclares front) names

module _ (exports : ℕ → Ident → Standing) (seen : Ident → Standing) (h : Heading) where
  -- what a name stands for where the block of a procedure begins: its formals come before the names
  -- around it
  pub data InsideAs (name : Ident) : Standing → Type 0 where
    a_formal : {x : Section} {t : TypeNo} → formal_named name.name h.formals ≡ Some x
        → NamesType seen exports x.of.of t → InsideAs name (Known (formal x.of.is_open t))
    -- Rules are broken in the formal's type.
    no_type : {x : Section} → formal_named name.name h.formals ≡ Some x
        → ((t : TypeNo) → NamesType seen exports x.of.of t → ⊥) → InsideAs name Unknown
    no_formal : formal_named name.name h.formals ≡ None → InsideAs name (seen name)

  -- what its body gives back
  pub data BodyGives (types : Types) : Giving → Type 0 where
    gives_nothing : GivesBack types seen exports h.result None → BodyGives types Nothing
    gives_result : {t : TypeNo} → GivesBack types seen exports h.result (Some t)
        → BodyGives types (AResult t)
    -- Rules are broken in the type of the result.
    gives_any : ((r : Option TypeNo) → GivesBack types seen exports h.result r → ⊥)
        → BodyGives types AnyResult

-- ---- blocks

-- where a block stands
pub record Place : Type 0 where
  -- what names stand for where it begins
  pub names : Ident → Standing
  -- which of them are names of variables of the module
  pub own : Ident → Bool
  -- the names that imports, formals or the module's own definition have taken
  pub taken : List ℕ → Bool
  -- the types of this definition's procedures, which await their headings
  pub awaited : List ℕ → Option TypeNo
  -- whether it is a procedure's
  pub nested : Bool
  -- what its body gives back
  pub gives : Giving

-- which names stand for variables of the module behind these declarations; names that a procedure
-- declares do not
abbrev pub module_variables : Place → List Declaration → (Ident → Bool) → Ident → Bool
module_variables p block own name =
    cond p.nested ((p.taken name.name || not (is_declared name.name block)) && p.own name)
    (own name)

-- the place of a procedure's block
abbrev pub in_procedure : Heading → (Ident → Standing) → (Ident → Bool) → Giving → Place
in_procedure h names own gives = record {
  names = names;
  own = λ name. not (is_formal name.name h) && own name;
  taken = λ n. is_formal n h;
  awaited = λ n. None;
  nested = true;
  gives = gives;
}

-- no BEGIN is no statements
abbrev pub statements_in : Option (List Stmt) → List Stmt
statements_in None = []
statements_in (Some xs) = xs

-- the spot of its statements
abbrev pub body_spot : Place → (Ident → Standing) → (Ident → Bool) → Spot
body_spot p names own =
    record { names = names; own = own; gives = p.gives; in_loop = false }

abbrev pub IsNoProcedure : Decl-F Decl Block → Type 0
IsNoProcedure (layer.Procedure h b) = ⊥
IsNoProcedure other = Unit {0}

module _ (exports : ℕ → Ident → Standing) where
  mutual
    -- A block is read from the types that are known where it begins to those that are known behind
    -- it, with all that stands in it.
    pub data Reads : Place → Types → Block → Types → Type 0 where
      reads : {p : Place} {types end : Types} {b : Block} (whole : List Declared)
          (names : Ident → Standing) (own : Ident → Bool)
          → in_order whole ≡ declarations_of (out-Block b).decls
          → AllAdded types exports p.names p.taken p.awaited p.nested
          (declarations_of (out-Block b).decls) whole
          → AllStand types exports p.names p.taken p.awaited p.nested
          (declarations_of (out-Block b).decls) whole names
          → ((name : Ident) → IsOwn types exports p.names p.taken p.awaited p.nested
          (declarations_of (out-Block b).decls) p.own whole name (own name))
          → ReadsBodies p (declarations_of (out-Block b).decls) names own []
          (types_behind types whole) (out-Block b).decls end
          → Reads p types b end

    -- So are the procedures in it, one behind the other, each in front of those that are left.
    pub data ReadsBodies : Place → List Declaration → (Ident → Standing) → (Ident → Bool)
        → List Declaration → Types → List Decl → Types → Type 0 where
      no_more : {p : Place} {block front : List Declaration} {names : Ident → Standing}
          {own : Ident → Bool} {types : Types} → ReadsBodies p block names own front types [] types
      no_body : {p : Place} {block front : List Declaration} {names : Ident → Standing}
          {own : Ident → Bool} {types end : Types} {d : Decl} {ds : List Decl}
          → IsNoProcedure (out-Decl d)
          → ReadsBodies p block names own (front ++ declared_by (out-Decl d)) types ds end
          → ReadsBodies p block names own front types (d ∷ ds) end
      a_body : {p : Place} {block front : List Declaration} {names : Ident → Standing}
          {own : Ident → Bool} {types mid end : Types} {d : Decl} {ds : List Decl} {h : Heading}
          {b : Block} (seen inside : Ident → Standing) (gives : Giving)
          → out-Decl d ≡ layer.Procedure h b
          → ((name : Ident) → SeenAs p.taken block front names name (seen name))
          → ((name : Ident) → InsideAs exports seen h name (inside name))
          → BodyGives exports seen h types gives
          → Reads (in_procedure h inside (module_variables p block own) gives) types b mid
          → ReadsBodies p block names own (front ++ declared_by (out-Decl d)) mid ds end
          → ReadsBodies p block names own front types (d ∷ ds) end

  -- the rules that are broken in it: in its declarations, also where they are read again, in the
  -- blocks of its procedures, and in its statements
  abbrev mutual
    pub BrokenBlock : {p : Place} {types end : Types} {b : Block} → Reads p types b end
        → Breach → Type 0
    BrokenBlock {p = p} {types = types} {end = end} {b = b}
        (reads whole names own order added stand owned bodies) f =
        BrokenIn types exports p.names p.taken p.awaited p.nested
        (declarations_of (out-Block b).decls) whole f
        ⊎ (BrokenAgain (types_behind types whole) exports p.taken
        (declarations_of (out-Block b).decls) names [] (declarations_of (out-Block b).decls) f
        ⊎ (BrokenBodies bodies f
        ⊎ ((x : Stmt) × Among x (statements_in (out-Block b).body)
        × Broken end exports (body_spot p names own) x f)))

    pub BrokenBodies : {p : Place} {block front : List Declaration} {names : Ident → Standing}
        {own : Ident → Bool} {types end : Types} {ds : List Decl}
        → ReadsBodies p block names own front types ds end → Breach → Type 0
    BrokenBodies no_more f = ⊥
    BrokenBodies (no_body n rest) f = BrokenBodies rest f
    BrokenBodies (a_body seen inside gives e s i r body rest) f =
        BrokenBlock body f ⊎ BrokenBodies rest f

  -- A procedure of the definition has a heading in the implementation; else the refusal is at the
  -- module's name.
  abbrev pub LacksHeading : {p : Place} {types end : Types} {b : Block} → Reads p types b end
      → Pos → Breach → Type 0
  LacksHeading {p = p} {types = types} {b = b}
      (reads whole names own order added stand owned bodies) at f =
      Lacks types exports p.names p.taken p.awaited p.nested (declarations_of (out-Block b).decls)
      at whole f
