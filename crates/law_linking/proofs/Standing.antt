-- The empty modules that stand for parts, and the places of files.
use Rattle.std.proofs.Common.{◌≡◌, ℕ, zero, suc, ◌+◌, Bool, true, false, cond, List, [], ◌∷◌, map, refl, sym, ap, subst, ◌∙◌, inl, inr, arith, Option, Some, option_map, ◌⊎◌}
use Rattle.std.specs.Prelude.{slice_get, String}
use Rattle.std.specs.List.{flat_map}
use Rattle.std.specs.Global.{Global}
use Rattle.std.specs.String.{string_bytes}
use Rattle.std.proofs.lemmas.Bool.{false≢true}
use Rattle.std.proofs.lemmas.Option.{none-some, same_Some, slice_get-map, slice_get_within, get_or_from_slice_get}
use Rattle.m2_tree.specs.declared.name.Ident.{Ident}
use Rattle.m2_tree.specs.declared.decl.Import.{Import}
use Rattle.m2_tree.specs.declared.decl.Contents.{Contents}
use Rattle.m2_tree.specs.declared.decl.Contents.TheVariants.{Definition, Implementation, Program}
use Rattle.m2_tree.specs.declared.decl.Module.{Module}
use Rattle.m2_graph.specs.Imports.{imports_of, named_by, is_definition, is_program, is_definition_part, is_program_part}
use Rattle.m2_graph.specs.Files.{File, AreInOrder, number_files, trees, given_of}
use Rattle.empty_modules.specs.Empty.{import_of, empty_definition, empty_body, empty_program}
use Rattle.law_graph.proofs.Lists.{Among, none_among, later_among, among_cases, among_append_cases, among-permutation, map_among}
use Rattle.law_graph.proofs.Given.{given_trees}
use Rattle.law_separation.specs.Alike.{Tree, Jobs}
use Rattle.link_parts.specs.declared.part.Part.{Part}
use Rattle.link_parts.specs.Stands.{body_of, stands_of, stands_for, trees_of}
use Rattle.law_linking.specs.Parts.{IsPart, AreParts}

-- ---- what stands for a part

-- the body, or the definition, which a program has not
abbrev pub IsStand : Part → Module → Type 0
IsStand p s = (s ≡ body_of p) ⊎ ((p.is_program ≡ false) × (s ≡ empty_definition (string_bytes p.name)))

-- the module in a place stands for a part
pub record Stand (ps : List Part) (k : ℕ) (s : Module) : Type 0 where
  pub p : Part
  pub at : slice_get (stands_for ps) k ≡ Some (p, s)
  pub among : Among ps p
  pub is : IsStand p s

tree_there : (stands : List (Part × Module)) (k : ℕ) (s : Module) → slice_get (given_trees (trees_of stands)) k ≡ Some s
    → (p : Part) × (slice_get stands k ≡ Some (p, s))
tree_there [] k s e = absurd (none-some s e)
tree_there (t ∷ ts) zero s e = (t.0, ap (λ (z : Module). Some (t.0, z)) (same_Some t.1 s e))
tree_there (t ∷ ts) (suc k) s e = tree_there ts k s e

pub standing : (p : Part) (s : Module) → Among (stands_of p) s → IsStand p s
standing p s a = by p.is_program refl a
  where
    last : Among (body_of p ∷ []) s → s ≡ body_of p
    last b = elim (among_cases (body_of p) [] s b) [ inl e ↦ sym e | inr none ↦ absurd (none_among s none) ]

    by : (c : Bool) → p.is_program ≡ c → Among
        (cond c (body_of p ∷ []) (empty_definition (string_bytes p.name) ∷ body_of p ∷ [])) s → IsStand p s
    by true e b = inl (last b)
    by false e b = elim (among_cases (empty_definition (string_bytes p.name)) (body_of p ∷ []) s b)
        [ inl d ↦ inr (e, sym d) | inr more ↦ inl (last more) ]

for_part : (ps : List Part) (p : Part) (s : Module) → Among (stands_for ps) (p, s) → Among ps p × Among (stands_of p) s
for_part [] p s a = absurd (none_among (p, s) a)
for_part (q ∷ ps) p s a = elim (among_append_cases (map (λ (m : Module). (q, m)) (stands_of q)) (stands_for ps) (p, s)
    a) [
      | inl here ↦ (
          let r = map_among (λ (m : Module). (q, m)) (stands_of q) (p, s) here in
          let e : q ≡ p = ap (λ (t : Part × Module). t.0) r.2 in
          let d : r.0 ≡ s = ap (λ (t : Part × Module). t.1) r.2 in (
            (0, ap Some e),
            subst (λ (m : Module). Among (stands_of p) m) d
                (subst (λ (x : Part). Among (stands_of x) r.0) e r.1),
          ))
      | inr more ↦ (let r = for_part ps p s more in (later_among q ps p r.0, r.1))
    ]

-- Each of the modules stands for a part.
pub stand_there : (ps : List Part) (k : ℕ) (s : Module) → slice_get (given_trees (trees_of (stands_for ps))) k ≡ Some s
    → Stand ps k s
stand_there ps k s e =
    let t = tree_there (stands_for ps) k s e in
    let r = for_part ps t.0 s (k, t.1) in
    record { p = t.0; at = t.1; among = r.0; is = standing t.0 s r.1 }

-- ---- bodies that stand for parts

pub body_kind : (p : Part) → is_definition (body_of p) ≡ false
body_kind p = by p.is_program
  where
    is : List Import
    is = map (λ (n : String Global). import_of (string_bytes n)) p.imports.items

    by : (c : Bool) → is_definition (cond c (empty_program (string_bytes p.name) is)
        (empty_body (string_bytes p.name) is)) ≡ false
    by true = refl
    by false = refl

pub body_program : (p : Part) → is_program (body_of p) ≡ p.is_program
body_program p = by p.is_program
  where
    is : List Import
    is = map (λ (n : String Global). import_of (string_bytes n)) p.imports.items

    by : (c : Bool) → is_program (cond c (empty_program (string_bytes p.name) is) (empty_body (string_bytes p.name) is))
        ≡ c
    by true = refl
    by false = refl

pub body_name : (p : Part) → (body_of p).name.name ≡ string_bytes p.name
body_name p = by p.is_program
  where
    is : List Import
    is = map (λ (n : String Global). import_of (string_bytes n)) p.imports.items

    by : (c : Bool) → (cond c (empty_program (string_bytes p.name) is) (empty_body (string_bytes p.name) is)).name.name
        ≡ string_bytes p.name
    by true = refl
    by false = refl

names_named : (ns : List (String Global))
    → map (λ (i : Ident). i.name) (flat_map (λ (i : Import). named_by i.from i.names)
    (map (λ (n : String Global). import_of (string_bytes n)) ns)) ≡ map string_bytes ns
names_named [] = refl
names_named (n ∷ ns) = ap (λ (xs : List (List ℕ)). string_bytes n ∷ xs) (names_named ns)

-- It imports what the part imports.
pub body_imports : (p : Part) → map (λ (i : Ident). i.name) (imports_of (body_of p)) ≡ map string_bytes p.imports.items
body_imports p = by p.is_program
  where
    is : List Import
    is = map (λ (n : String Global). import_of (string_bytes n)) p.imports.items

    by : (c : Bool) → map (λ (i : Ident). i.name)
        (imports_of (cond c (empty_program (string_bytes p.name) is) (empty_body (string_bytes p.name) is)))
        ≡ map string_bytes p.imports.items
    by true = names_named p.imports.items
    by false = names_named p.imports.items

-- A program module is no definition.
pub program_kind : (m : Module) → is_program m ≡ true → is_definition m ≡ false
program_kind m e = by m.contents e
  where
    by : (c : Contents) → is_program_part c ≡ true → is_definition_part c ≡ false
    by (Definition ds) e = absurd (false≢true e)
    by (Implementation b) e = refl
    by (Program b) e = refl

-- ---- parts, and places

pub part_is : (given : List Tree) (jobs : Jobs given) (ps : List Part) → AreParts given jobs ps → (p : Part)
    → Among ps p → IsPart given jobs p
part_is given jobs ps all p a = subst (λ (x : Part). IsPart given jobs x) (get_or_from_slice_get ps a.0 p p a.1)
    (all a.0 p (slice_get_within ps a.0 p a.1))

file_there : (n : ℕ) (fs : List Tree) (k : ℕ) (m : Module) → slice_get (given_trees fs) k ≡ Some m → (f : File)
    × (slice_get (number_files n fs) k ≡ Some f) × (f.given ≡ n + k) × (f.tree ≡ m)
file_there n [] k m e = absurd (none-some m e)
file_there n (t ∷ fs) zero m e = (record { name = t.0; tree = t.1; given = n }, refl, omega arith, same_Some t.1 m e)
file_there n (t ∷ fs) (suc k) m e = let r = file_there (n + 1) fs k m e in
    (r.0, r.1, (let q = r.2 in omega (arith, q)), r.3)

-- The module of a file has a place in order, which says how many files were given before it.
pub place_of : (fs : List Tree) (ordered : List File) → AreInOrder (number_files 0 fs) ordered → (k : ℕ) (m : Module)
    → slice_get (given_trees fs) k ≡ Some m → (r : ℕ) × (slice_get (trees ordered) r ≡ Some m)
    × (given_of ordered r ≡ k)
place_of fs ordered o k m e =
    let f = file_there 0 fs k m e in
    let a = among-permutation (number_files 0 fs) ordered f.0 o.same (k, f.1) in
    let t : slice_get (trees ordered) a.0 ≡ Some m = slice_get-map (λ (x : File). x.tree) ordered a.0
    ∙ ap (λ (x : Option File). option_map (λ (y : File). y.tree) x) a.1 ∙ ap Some f.3 in
    let h : slice_get (map (λ (x : File). x.given) ordered) a.0 ≡ Some f.0.given =
    slice_get-map (λ (x : File). x.given) ordered a.0
    ∙ ap (λ (x : Option File). option_map (λ (y : File). y.given) x) a.1 in
    let q : f.0.given ≡ k = (let g = f.2 in omega (arith, g)) in
    (a.0, t, get_or_from_slice_get (map (λ (x : File). x.given) ordered) a.0 f.0.given 0 h ∙ q)
