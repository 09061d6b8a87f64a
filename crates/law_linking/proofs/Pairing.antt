-- For each empty module to which a walk comes, the module of the program.
use Rattle.std.proofs.Common.{◌≡◌, ℕ, Bool, true, false, cond, ◌||◌, not, List, [], ◌++◌, map, refl, sym, ap, ap₂, ◌∙◌, inl, inr, Option, Some, None}
use Rattle.std.specs.Prelude.{slice_get}
use Rattle.std.specs.List.{filter_map}
use Rattle.std.specs.Option.{unwrap_or}
use Rattle.std.specs.String.{string_bytes}
use Rattle.std.proofs.lemmas.Bool.{false≢true}
use Rattle.std.proofs.lemmas.List.{append-nil}
use Rattle.std.proofs.lemmas.List.Elements.{filter_map-append}
use Rattle.std.proofs.lemmas.Option.{get_or_from_slice_get}
use Rattle.m2_tree.specs.declared.name.Ident.{Ident}
use Rattle.m2_tree.specs.declared.decl.Module.{Module}
use Rattle.graph_walk.specs.Links.{targets}
use Rattle.m2_graph.specs.Imports.{imports_of, is_definition, is_program, is_implementation, implements, first_that, definition_of, links_of, links_at, walk_of, walks}
use Rattle.m2_graph.specs.Files.{File, AreInOrder, number_files, trees, given_of}
use Rattle.m2_graph.specs.Reported.{IsReported}
use Rattle.m2_graph.specs.Graph.{body_of as starts_at}
use Rattle.law_graph.specs.Started.{definition_imported, all_imported}
use Rattle.law_graph.proofs.Lists.{Among}
use Rattle.law_graph.proofs.Passing.{found_at}
use Rattle.law_graph.proofs.Fine.{AreFine, are_fine}
use Rattle.law_graph.proofs.Given.{given_trees, tree_given, given_among}
use Rattle.law_graph.proofs.Starting.{same_at, walks_at}
use Rattle.law_graph.proofs.Defined.{one_definition}
use Rattle.law_separation.specs.Alike.{Tree, Jobs}
use Rattle.link_parts.specs.declared.part.Part.{Part}
use Rattle.link_parts.specs.Stands.{body_of, stands_for, trees_of}
use Rattle.law_linking.specs.Parts.{IsPart, AreParts}
use Rattle.law_linking.proofs.Single.{one_program, has_definition}
use Rattle.law_linking.proofs.Finding.{Meant, meant, Implemented, implemented}
use Rattle.law_linking.proofs.Naming.{named_filter}
use Rattle.law_linking.proofs.Standing.{Stand, stand_there, body_kind, body_program, body_name, body_imports, program_kind, part_is, place_of}

-- ---- where walks go

-- the names that modules import
abbrev pub names_of : List Ident → List (List ℕ)
names_of is = map (λ (i : Ident). i.name) is

pub links_named : (ms : List Module) (m : Module)
    → links_of ms m ≡ filter_map (definition_of ms) (names_of (imports_of m))
links_named ms m = named_filter (definition_of ms) (imports_of m)

-- from a definition: where it goes, and then where its implementation goes
walk_definition : (ms : List Module) (m x : Module) (b : ℕ) → is_definition m ≡ true
    → first_that (implements m.name.name) ms ≡ Some b → slice_get ms b ≡ Some x
    → walk_of ms m ≡ links_of ms m ++ links_of ms x
walk_definition ms m x b d first there =
    ap (λ (ks : List ℕ). links_of ms m ++ ks)
    (ap (λ (c : Bool). cond c (links_at ms m (first_that (implements m.name.name) ms)) []) d ∙ ap (links_at ms m) first
    ∙ ap (links_of ms) (get_or_from_slice_get ms b x m there))

walk_body : (ms : List Module) (m : Module) → is_definition m ≡ false → walk_of ms m ≡ links_of ms m
walk_body ms m d = ap (λ (c : Bool). links_of ms m
    ++ cond c (links_at ms m (first_that (implements m.name.name) ms)) []) d ∙ append-nil (links_of ms m)

-- from a definition that imports nothing
walk_empty : (ms : List Module) (m x : Module) (b : ℕ) → imports_of m ≡ [] → is_definition m ≡ true
    → first_that (implements m.name.name) ms ≡ Some b → slice_get ms b ≡ Some x → walk_of ms m ≡ links_of ms x
walk_empty ms m x b none d first there = walk_definition ms m x b d first there
    ∙ ap (λ (is : List Ident). filter_map (λ (i : Ident). definition_of ms i.name) is ++ links_of ms x) none

-- what starts at a definition, and at a body
starts_definition : (ms : List Module) (k : ℕ) (m : Module) (b : ℕ) → slice_get ms k ≡ Some m → is_definition m ≡ true
    → first_that (implements m.name.name) ms ≡ Some b → starts_at ms k (slice_get ms k) ≡ Some b
starts_definition ms k m b at d first = ap (starts_at ms k) at
    ∙ ap (λ (c : Bool). cond c (first_that (implements m.name.name) ms) (Some k)) d ∙ first

starts_body : (ms : List Module) (k : ℕ) (m : Module) → slice_get ms k ≡ Some m → is_definition m ≡ false
    → starts_at ms k (slice_get ms k) ≡ Some k
starts_body ms k m at d = ap (starts_at ms k) at
    ∙ ap (λ (c : Bool). cond c (first_that (implements m.name.name) ms) (Some k)) d

pub is_body : (m : Module) → is_definition m ≡ false → is_program m ≡ false → is_implementation m ≡ true
is_body m d p = ap₂ (λ (b c : Bool). not (b || c)) d p

-- ---- modules that go together

-- the module of the program for an empty module: the definition of its name, or the program module
abbrev pub twin : (whole : List Module) → Option Module → ℕ
twin whole None = 0
twin whole (Some s) = cond (is_definition s) (unwrap_or (definition_of whole s.name.name) 0)
    (unwrap_or (first_that is_program whole) 0)

abbrev pub image : (whole stands : List Module) → ℕ → ℕ
image whole stands j = twin whole (slice_get stands j)

image_definition : (whole stands : List Module) (j i : ℕ) (s : Module) → slice_get stands j ≡ Some s
    → is_definition s ≡ true → definition_of whole s.name.name ≡ Some i → image whole stands j ≡ i
image_definition whole stands j i s at d e = ap (twin whole) at
    ∙ ap (λ (c : Bool). cond c (unwrap_or (definition_of whole s.name.name) 0)
    (unwrap_or (first_that is_program whole) 0)) d ∙ ap (λ (o : Option ℕ). unwrap_or o 0) e

image_program : (whole stands : List Module) (j i : ℕ) (s : Module) → slice_get stands j ≡ Some s
    → is_definition s ≡ false → first_that is_program whole ≡ Some i → image whole stands j ≡ i
image_program whole stands j i s at d e = ap (twin whole) at
    ∙ ap (λ (c : Bool). cond c (unwrap_or (definition_of whole s.name.name) 0)
    (unwrap_or (first_that is_program whole) 0)) d ∙ ap (λ (o : Option ℕ). unwrap_or o 0) e

-- the program's files in order, with its graph, and the same of the empty modules that stand for parts
pub record Sides (given : List Tree) (jobs : Jobs given) (ps : List Part) : Type 0 where
  pub parts : AreParts given jobs ps
  pub ordered : List File
  pub in_order : AreInOrder (number_files 0 given) ordered
  pub fine : IsReported ordered []
  pub others : List File
  pub others_in_order : AreInOrder (number_files 0 (trees_of (stands_for ps))) others
  pub others_fine : IsReported others []

module _ (given : List Tree) (jobs : Jobs given) (ps : List Part) (w : Sides given jobs ps) where
  abbrev pub whole : List Module
  whole = trees w.ordered

  abbrev pub stands : List Module
  stands = trees w.others

  -- An empty module, the module of the program, the part, and the two bodies that start there.
  pub record Paired (j : ℕ) : Type 0 where
    pub s : Module
    pub at : slice_get stands j ≡ Some s
    pub i : ℕ
    pub image_is : image whole stands j ≡ i
    pub m : Module
    pub there : slice_get whole i ≡ Some m
    pub kind : is_definition s ≡ is_definition m
    pub same : s.name.name ≡ m.name.name
    pub p : Part
    pub is_part : IsPart given jobs p
    pub b : ℕ
    pub starts : starts_at stands j (slice_get stands j) ≡ Some b
    pub stand : slice_get (stands_for ps) (given_of w.others b) ≡ Some (p, body_of p)
    pub stand_at : slice_get stands b ≡ Some (body_of p)
    pub c : ℕ
    pub builds : starts_at whole i (slice_get whole i) ≡ Some c
    pub body_at : slice_get whole c ≡ Some is_part.body
    pub file : given_of w.ordered c ≡ is_part.file
    pub row : targets (walks stands) j ≡ filter_map (definition_of stands) (map string_bytes p.imports.items)
    pub whole_row : targets (walks whole) i
        ≡ filter_map (definition_of whole) (names_of (all_imported (given_trees given) is_part.body))

  fine : AreFine whole
  fine = are_fine w.ordered w.fine

  others_fine : AreFine stands
  others_fine = are_fine w.others w.others_fine

  -- what stands in a place
  stand_of : (k : ℕ) (s : Module) → slice_get stands k ≡ Some s → Stand ps (given_of w.others k) s
  stand_of k s e = stand_there ps (given_of w.others k) s
      (tree_given (trees_of (stands_for ps)) w.others w.others_in_order k s e)

  -- a body stands for a part
  stand_is : (k : ℕ) (s : Module) (t : Stand ps (given_of w.others k) s) → is_definition s ≡ false → s ≡ body_of t.p
  stand_is k s t d = elim t.is [ inl e ↦ e | inr e ↦ absurd (false≢true (sym d ∙ ap is_definition e.1)) ]

  -- a definition imports nothing
  nothing_imported : (k : ℕ) (s : Module) (t : Stand ps (given_of w.others k) s) → is_definition s ≡ true
      → imports_of s ≡ []
  nothing_imported k s t d = elim t.is [
    | inl e ↦ absurd
        (false≢true (sym (body_kind t.p) ∙ ap is_definition (sym e) ∙ d))
    | inr e ↦ ap imports_of e.1
  ]

  body_row : (p : Part) → links_of stands (body_of p)
      ≡ filter_map (definition_of stands) (map string_bytes p.imports.items)
  body_row p = links_named stands (body_of p) ∙ ap (filter_map (definition_of stands)) (body_imports p)

  -- two bodies of one name are in one place
  one_body : (j k : ℕ) (x y : Module) → slice_get whole j ≡ Some x → slice_get whole k ≡ Some y
      → is_definition x ≡ false → is_definition y ≡ false → x.name.name ≡ y.name.name → j ≡ k
  one_body j k x y e g d f same = fine.apart j k x y e g (d ∙ sym f) same

  -- ---- definitions

  module _ (j : ℕ) (s : Module) (at : slice_get stands j ≡ Some s) (d : is_definition s ≡ true) where
    own : Implemented stands s
    own = implemented stands others_fine s (j, at) d

    stand : Stand ps (given_of w.others own.place) own.m
    stand = stand_of own.place own.m own.at

    body : own.m ≡ body_of stand.p
    body = stand_is own.place own.m stand own.kind

    part : IsPart given jobs stand.p
    part = part_is given jobs ps w.parts stand.p stand.among

    named : s.name.name ≡ part.body.name.name
    named = own.same ∙ ap (λ (x : Module). x.name.name) body ∙ body_name stand.p ∙ part.name

    no_program : is_program part.body ≡ false
    no_program = sym part.program ∙ sym (body_program stand.p) ∙ ap is_program (sym body) ∙ own.no_program

    place : (r : ℕ) × (slice_get whole r ≡ Some part.body) × (given_of w.ordered r ≡ part.file)
    place = place_of given w.ordered w.in_order part.file part.body part.there

    definition : (i : ℕ) × (definition_of whole part.body.name.name ≡ Some i)
    definition = has_definition w.ordered w.fine place.0 part.body place.1 (is_body part.body part.kind no_program)

    defined : definition_of whole s.name.name ≡ Some definition.0
    defined = ap (definition_of whole) named ∙ definition.1

    here : Meant whole s.name.name definition.0
    here = meant whole s.name.name definition.0 defined

    -- the implementation of the definition is the body of the part
    there : Implemented whole here.m
    there = implemented whole fine here.m (definition.0, here.at) here.kind

    there_named : there.m.name.name ≡ part.body.name.name
    there_named = sym there.same ∙ sym here.same ∙ named

    there_is : there.place ≡ place.0
    there_is = one_body there.place place.0 there.m part.body there.at place.1 there.kind part.kind there_named

    there_first : first_that (implements here.m.name.name) whole ≡ Some place.0
    there_first = there.first ∙ ap Some there_is

    -- what the definition of the body's name imports
    given_here : Among (given_trees given) here.m
    given_here = (given_of w.ordered definition.0, tree_given given w.ordered w.in_order definition.0 here.m here.at)

    imported : definition_imported (given_trees given) (definition_of (given_trees given) part.body.name.name)
        ≡ imports_of here.m
    imported =
        ap (λ (n : List ℕ). definition_imported (given_trees given) (definition_of (given_trees given) n))
        (sym named ∙ here.same)
        ∙ one_definition given jobs.files jobs.needs jobs.starts jobs.is_graph here.m given_here here.kind

    goes : targets (walks whole) definition.0
        ≡ filter_map (definition_of whole) (names_of (all_imported (given_trees given) part.body))
    goes =
        walks_at whole definition.0 here.m here.at
        ∙ walk_definition whole here.m part.body place.0 here.kind there_first place.1
        ∙ sym (filter_map-append (λ (i : Ident). definition_of whole i.name) (imports_of here.m) (imports_of part.body))
        ∙ named_filter (definition_of whole) (imports_of here.m ++ imports_of part.body)
        ∙ ap (λ (is : List Ident). filter_map (definition_of whole) (names_of (is ++ imports_of part.body)))
        (sym imported)

    stand_there_at : slice_get stands own.place ≡ Some (body_of stand.p)
    stand_there_at = own.at ∙ ap Some body

    stand_goes : targets (walks stands) j ≡ filter_map (definition_of stands) (map string_bytes stand.p.imports.items)
    stand_goes =
        walks_at stands j s at
        ∙ walk_empty stands s (body_of stand.p) own.place (nothing_imported j s (stand_of j s at) d) d own.first
        stand_there_at
        ∙ body_row stand.p

    pub pair_definition : Paired j
    pair_definition = record {
      s = s;
      at = at;
      i = definition.0;
      image_is = image_definition whole stands j definition.0 s at d defined;
      m = here.m;
      there = here.at;
      kind = d ∙ sym here.kind;
      same = here.same;
      p = stand.p;
      is_part = part;
      b = own.place;
      starts = starts_definition stands j s own.place at d own.first;
      stand = stand.at ∙ ap (λ (x : Module). Some (stand.p, x)) body;
      stand_at = stand_there_at;
      c = place.0;
      builds = starts_definition whole definition.0 here.m place.0 here.at here.kind there_first;
      body_at = place.1;
      file = place.2;
      row = stand_goes;
      whole_row = goes;
    }

    -- The definition of its name is the one that goes with it.
    pub defined_at : definition_of whole s.name.name ≡ Some (image whole stands j)
    defined_at = defined ∙ ap Some (sym (image_definition whole stands j definition.0 s at d defined))

  -- ---- the program module

  module _ (j : ℕ) (is_first : first_that is_program stands ≡ Some j) where
    program : (s : Module) × (slice_get stands j ≡ Some s) × (is_program s ≡ true)
    program = found_at is_program stands j is_first

    program_stand : Stand ps (given_of w.others j) program.0
    program_stand = stand_of j program.0 program.1

    program_body : program.0 ≡ body_of program_stand.p
    program_body = stand_is j program.0 program_stand (program_kind program.0 program.2)

    program_part : IsPart given jobs program_stand.p
    program_part = part_is given jobs ps w.parts program_stand.p program_stand.among

    is_so : is_program program_part.body ≡ true
    is_so = sym program_part.program ∙ sym (body_program program_stand.p) ∙ ap is_program (sym program_body) ∙ program.2

    program_place : (r : ℕ) × (slice_get whole r ≡ Some program_part.body) × (given_of w.ordered r ≡ program_part.file)
    program_place = place_of given w.ordered w.in_order program_part.file program_part.body program_part.there

    -- it has no definition
    undefined : definition_of (given_trees given) program_part.body.name.name ≡ None
    undefined = by (definition_of (given_trees given) program_part.body.name.name) refl
      where
        by : (o : Option ℕ) → definition_of (given_trees given) program_part.body.name.name ≡ o → o ≡ None
        by None e = refl
        by (Some k) e = absurd (never (meant (given_trees given) program_part.body.name.name k e))
          where
            never : Meant (given_trees given) program_part.body.name.name k → ⊥
            never f = no_body (implemented whole fine f.m (given_among given w.ordered w.in_order f.m (k, f.at)) f.kind)
              where
                no_body : Implemented whole f.m → ⊥
                no_body g =
                    let same : program_part.body.name.name ≡ g.m.name.name = f.same ∙ g.same in
                    let q : program_place.0 ≡ g.place =
                    one_body program_place.0 g.place program_part.body g.m program_place.1 g.at program_part.kind
                    g.kind same in
                    let is : program_part.body ≡ g.m =
                    same_at (slice_get whole g.place) program_part.body g.m
                    (ap (slice_get whole) (sym q) ∙ program_place.1) g.at in
                    false≢true (sym g.no_program ∙ ap is_program (sym is) ∙ is_so)

    module _ (i : ℕ) (is_whole : first_that is_program whole ≡ Some i) where
      placed : i ≡ program_place.0
      placed = let f = found_at is_program whole i is_whole in
          one_program w.ordered w.fine i program_place.0 f.0 program_part.body f.1 program_place.1 f.2 is_so

      pub pair_program : Paired j
      pair_program = record {
        s = program.0;
        at = program.1;
        i = program_place.0;
        image_is = image_program whole stands j program_place.0 program.0 program.1 (program_kind program.0 program.2)
            (is_whole ∙ ap Some placed);
        m = program_part.body;
        there = program_place.1;
        kind = program_kind program.0 program.2 ∙ sym program_part.kind;
        same = ap (λ (x : Module). x.name.name) program_body ∙ body_name program_stand.p ∙ program_part.name;
        p = program_stand.p;
        is_part = program_part;
        b = j;
        starts = starts_body stands j program.0 program.1 (program_kind program.0 program.2);
        stand = program_stand.at ∙ ap (λ (x : Module). Some (program_stand.p, x)) program_body;
        stand_at = program.1 ∙ ap Some program_body;
        c = program_place.0;
        builds = starts_body whole program_place.0 program_part.body program_place.1 program_part.kind;
        body_at = program_place.1;
        file = program_place.2;
        row = walks_at stands j program.0 program.1 ∙ walk_body stands program.0 (program_kind program.0 program.2)
            ∙ ap (links_of stands) program_body ∙ body_row program_stand.p;
        whole_row = walks_at whole program_place.0 program_part.body program_place.1
            ∙ walk_body whole program_part.body program_part.kind
            ∙ links_named whole program_part.body
            ∙ ap (λ (o : Option ℕ). filter_map (definition_of whole)
            (names_of (definition_imported (given_trees given) o ++ imports_of program_part.body))) (sym undefined);
      }

      -- the program module goes with the program module
      pub program_image : image whole stands j ≡ i
      program_image = image_program whole stands j i program.0 program.1 (program_kind program.0 program.2) is_whole
