-- The modules of a program have names of letters and digits.
use Rattle.std.proofs.Common.{◌≡◌, ◌⊎◌, inl, inr, ℕ, zero, suc, ◌<◌, ◌≤◌, Bool, true, false, not, ◌||◌, List, [], ◌∷◌, length, map, Option, Some, None, refl, sym, ap, subst, ◌∙◌}
use Rattle.std.specs.Prelude.{All, slice_get, nat_le, codes}
use Rattle.std.specs.List.{AllByRecursion, list_all}
use Rattle.std.specs.Char.{is_ascii_alphabetic, is_ascii_alphanumeric}
use Rattle.std.specs.Int.{is_in_range}
use Rattle.std.specs.Str.{bytes_eq}
use Rattle.std.proofs.lemmas.Bool.{false≢true, and_from, and_parts, le-leb}
use Rattle.std.proofs.lemmas.List.Sums.{AllPass-from_list_all}
use Rattle.std.proofs.lemmas.List.Elements.{All-weaker}
use Rattle.std.proofs.lemmas.Slice.Eq.{bytes_eq-Decides}
use Rattle.std.specs.Arc.{arc_value}
use Rattle.std.specs.Borrow.{Bor}
use Rattle.std.proofs.lemmas.List.Elements.{All-from_recursion, All-nil, All-cons, All-head, All-tail}
use Rattle.m2_tree.specs.declared.decl.Module.{Module}
use Rattle.m2_tree.specs.Names.{same_name, is_console}
use Rattle.scan_tokens.specs.Bytes.{is_letter, is_digit, is_run_byte}
use Rattle.m2_graph.specs.Files.{number_files}
use Rattle.m2_graph.specs.Graph.{IsGraph}
use Rattle.m2_graph.specs.Refused.{is_built_in}
use Rattle.law_graph.proofs.Given.{given_among}
use Rattle.law_graph.proofs.Fine.{fine_file, tree_at}
use Rattle.typed_tree.specs.declared.typed_module.TypedModule.{TypedModule}
use Rattle.def_meaning.specs.Environment.{Modules}
use Rattle.wasm_tree.specs.Linking.{link_name}
use Rattle.wasm_tree.specs.Validity.{AreDistinct}
use Rattle.run_directory.specs.Directory.{begins_with_letter, is_module_name}
use Rattle.law_modules.specs.Linked as linked
use Rattle.m2_emit.specs.declared.emitted.ModuleBytes.{ModuleBytes}
use Rattle.m2_emit.specs.Emitted.{emitted}
use Rattle.law_graph.specs.Started.{at_places, names_of}
use Rattle.build_jobs.specs.declared.file.SourceFile.{SourceFile}
use Rattle.build_jobs.specs.declared.reading.Read.{Read}
use Rattle.build_jobs.specs.declared.reading.Read.TheVariants as read
use Rattle.build_jobs.specs.Reading.{AreRead}
use Rattle.build_jobs.proofs.Named.{Begins, IsWord, name_word, run_bound, run_byte}
use Rattle.m2c.specs.Names.{IsName}
use Rattle.build_results.specs.Texts.{modules, trees_of, AreTrees}
use Rattle.build_results.specs.Results.{refused_by, start_modules}
use Rattle.m2c.specs.Build.{HaveGraph}
use Rattle.m2c.specs.Modules.{AreTyped}
use Rattle.m2c.proofs.Programs.{distinct_all}
use Rattle.m2c.proofs.Alike.{one_program}
use Rattle.m2c.proofs.Encodings.{whole, as_many, are}

abbrev Named : Module → Type 0
Named m = IsWord m.name.name

name_of : (name : List ℕ) → IsWord name → IsName name
name_of name w = (
  w.few,
  All-weaker (λ b. is_run_byte b ≡ true) (λ b. (48 ≤ b) × (b < 123)) run_bound name
      (AllPass-from_list_all is_run_byte name w.run),
)

-- ---- the trees of files

read_named : (files : List SourceFile) (reads : List Read) → AreRead files reads
    → AllByRecursion Named (modules (trees_of files reads))
read_named [] reads h = tt
read_named (f ∷ fs) [] h = tt
read_named (f ∷ fs) (read.Refused pos number ∷ rs) h = read_named fs rs h.1
read_named (f ∷ fs) (read.Parsed tree ∷ rs) h = (name_word _ (arc_value tree) h.0, read_named fs rs h.1)

trees_named : (files : List SourceFile) (fs : List (List ℕ × Module)) → AreTrees files fs
    → AllByRecursion Named (modules fs)
trees_named files fs are = subst (λ (xs : List (List ℕ × Module)). AllByRecursion Named (modules xs)) (sym are.all)
    (read_named files are.reads are.are_read)

-- ---- those that start

some_named : (ms : List Module) → AllByRecursion Named ms → (k : ℕ) (m : Module) → slice_get ms k ≡ Some m → Named m
some_named [] h k m e = absurd cc
some_named (x ∷ ms) h zero m e = let same : x ≡ m = cc in subst Named same h.0
some_named (x ∷ ms) h (suc k) m e = some_named ms h.1 k m e

places_named : (ms : List Module) → AllByRecursion Named ms → (starts : List ℕ)
    → AllByRecursion IsWord (names_of (at_places ms starts))
places_named ms h [] = tt
places_named ms h (s ∷ ss) = by (slice_get ms s) refl (places_named ms h ss)
  where
    by : (o : Option Module) → slice_get ms s ≡ o → AllByRecursion IsWord (names_of (at_places ms ss))
        → AllByRecursion IsWord (names_of (at_places ms (s ∷ ss)))
    by None e more = rw e more
    by (Some m) e more = rw e (some_named ms h s m e, more)

emitted_named : (p : Modules) → AllByRecursion IsWord (linked.names p)
    → AllByRecursion (λ (x : ModuleBytes). IsName x.name) (map emitted p)
unfolding emitted
emitted_named [] h = tt
emitted_named (t ∷ ts) h = (name_of t.name h.0, emitted_named ts h.1)

pub started_named : (files : List SourceFile) (fs : List (List ℕ × Module)) (numbers : List ℕ) (jobs : List (List ℕ))
    (starts : List ℕ) → HaveGraph files fs numbers jobs starts → refused_by fs numbers jobs ≡ []
    → All (λ (x : ModuleBytes). IsName x.name) (start_modules fs numbers jobs starts)
started_named files fs numbers jobs starts have none =
    let w = whole files fs numbers jobs starts have none in
    let those = places_named (modules fs) (trees_named files fs have.are_trees) starts in
    let names = subst (AllByRecursion IsWord) (sym w.names) those in
    subst (All (λ (x : ModuleBytes). IsName x.name)) (sym w.are)
    (All-from_recursion (λ (x : ModuleBytes). IsName x.name) (map emitted w.program)
    (emitted_named w.program names))

-- the same of borrowed ones
pub borrowed_named : (ms : List (Bor ModuleBytes)) → All (λ (x : ModuleBytes). IsName x.name) (map (λ m. m.now) ms)
    → All (λ (m : Bor ModuleBytes). IsName m.now.name) ms
borrowed_named [] h = All-nil (λ (m : Bor ModuleBytes). IsName m.now.name)
borrowed_named (m ∷ ms) h =
    All-cons (λ (m : Bor ModuleBytes). IsName m.now.name) m ms
    (All-head (λ (x : ModuleBytes). IsName x.name) m.now (map (λ m. m.now) ms) h)
    (borrowed_named ms (All-tail (λ (x : ModuleBytes). IsName x.name) m.now (map (λ m. m.now) ms) h))

-- ---- the names by which an executor finds them

or_none : (a b : Bool) → (a || b) ≡ false → (a ≡ false) × (b ≡ false)
or_none true b e = absurd (false≢true (sym e))
or_none false b e = (refl, e)

or_first : (d x y : Bool) → d ≡ true → ((d || x) || y) ≡ true
or_first true x y e = refl
or_first false x y e = absurd (false≢true e)

or_others : (d x y : Bool) → (x || y) ≡ true → ((d || x) || y) ≡ true
or_others true x y e = refl
or_others false x y e = e

letter_or_digit : (b : ℕ) → is_run_byte b ≡ true → is_ascii_alphanumeric b ≡ true
letter_or_digit b e = elim (run_byte b e) [
  | inl l ↦ or_others (is_in_range 48 57 b) (is_in_range 65 90 b) (is_in_range 97 122 b) l
  | inr d ↦ or_first (is_in_range 48 57 b) (is_in_range 65 90 b) (is_in_range 97 122 b) d
]

letters_and_digits : (bs : List ℕ) → list_all is_run_byte bs ≡ true → list_all is_ascii_alphanumeric bs ≡ true
letters_and_digits [] e = refl
letters_and_digits (b ∷ bs) e =
    let both = and_parts (is_run_byte b) (list_all is_run_byte bs) e in
    and_from (is_ascii_alphanumeric b) (list_all is_ascii_alphanumeric bs) (letter_or_digit b both.0)
    (letters_and_digits bs both.1)

letter_first : (name : List ℕ) → Begins name → begins_with_letter name ≡ true
letter_first [] h = absurd h
letter_first (b ∷ bs) h = h

other_than_link : (name : List ℕ) → same_name name (codes "link") ≡ false → not (bytes_eq name link_name) ≡ true
other_than_link name e = by (bytes_eq name link_name) refl where
  by : (b : Bool) → bytes_eq name link_name ≡ b → not b ≡ true
  by true q = absurd (false≢true (sym e ∙ ap (λ (n : List ℕ). same_name n (codes "link"))
      ((bytes_eq-Decides name link_name).0 q)))
  by false q = refl

module_word : (name : List ℕ) → IsWord name → same_name name (codes "link") ≡ false → is_module_name name ≡ true
module_word name w e =
    and_from _ _ (and_from _ _ (and_from _ _ (letter_first name w.begins) (letters_and_digits name w.run))
    (le-leb (length name) 64 w.few)) (other_than_link name e)

module _ (fs : List (List ℕ × Module)) (numbers : List ℕ) (jobs : List (List ℕ)) (starts : List ℕ)
    (graph : IsGraph (number_files 0 fs) numbers jobs starts) where
  not_link : (m : Module) (k : ℕ) → slice_get (modules fs) k ≡ Some m → same_name m.name.name (codes "link") ≡ false
  not_link m k e =
      let a = given_among fs graph.0 graph.1 m (k, e) in
      let f = tree_at graph.0 a.0 m a.1 in
      let fine = (fine_file graph.0 graph.2.fine a.0 f.0 f.1).first in
      let free = (or_none (is_console f.0.tree.name.name) (same_name f.0.tree.name.name (codes "link"))
      (or_none _ (is_built_in f.0.tree.name.name) fine).1).1 in
      subst (λ (x : Module). same_name x.name.name (codes "link") ≡ false) f.2 free

  words_at : AllByRecursion Named (modules fs) → (ss : List ℕ)
      → AllByRecursion (λ n. is_module_name n ≡ true) (names_of (at_places (modules fs) ss))
  words_at h [] = tt
  words_at h (s ∷ ss) = by (slice_get (modules fs) s) refl (words_at h ss)
    where
      by : (o : Option Module) → slice_get (modules fs) s ≡ o
          → AllByRecursion (λ n. is_module_name n ≡ true) (names_of (at_places (modules fs) ss))
          → AllByRecursion (λ n. is_module_name n ≡ true) (names_of (at_places (modules fs) (s ∷ ss)))
      by None e more = rw e more
      by (Some m) e more = rw e (module_word m.name.name (some_named (modules fs) h s m e) (not_link m s e), more)

-- each has a name by which it is found, and these differ
pub record AreFound (p : Modules) : Type 0 where
  pub words : AllByRecursion (λ n. is_module_name n ≡ true) (linked.names p)
  pub distinct : AreDistinct (linked.names p)

pub program_found : (files : List SourceFile) (fs : List (List ℕ × Module)) (numbers : List ℕ) (jobs : List (List ℕ))
    (starts : List ℕ) → HaveGraph files fs numbers jobs starts → refused_by fs numbers jobs ≡ []
    → (p : Modules) → AreTyped (modules fs) numbers jobs starts p → AreFound p
program_found files fs numbers jobs starts have none p typed =
    let w = whole files fs numbers jobs starts have none in
    let same : w.program ≡ p = one_program (modules fs) numbers jobs starts w.program p w.typed typed in
    subst AreFound same
    (record {
      words = subst (AllByRecursion (λ n. is_module_name n ≡ true)) (sym w.names)
          (words_at fs numbers jobs starts have.is_graph (trees_named files fs have.are_trees) starts);
      distinct = distinct_all fs numbers jobs have.each (as_many files fs numbers jobs starts have none) none starts
          (are files fs numbers jobs starts have none);
    })
