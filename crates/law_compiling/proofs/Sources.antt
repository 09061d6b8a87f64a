-- The texts of files and their trees: one text has one tree, in whichever program it is.
use Rattle.std.proofs.Common.{◌≡◌, ℕ, zero, suc, List, [], ◌∷◌, Option, Some, refl, sym, ap, subst, ◌∙◌}
use Rattle.std.specs.Prelude.{slice_get, option_map}
use Rattle.std.specs.List.{All, Contains}
use Rattle.std.specs.Arc.{arc_value}
use Rattle.std.proofs.lemmas.Option.{none-some, same_Some, slice_get-map, slice_get-get_or, slice_get_within, get_or_from_slice_get}
use Rattle.m2_tree.specs.declared.token.Token.{Token}
use Rattle.m2_tree.specs.declared.decl.Module.{Module}
use Rattle.scan_tokens.proofs.Scanned.{tokens_once}
use Rattle.def_grammar.specs.Refusal.{IsTree}
use Rattle.def_grammar.proofs.Exact.{at_most_one}
use Rattle.build_jobs.specs.declared.file.SourceFile.{SourceFile}
use Rattle.build_jobs.specs.declared.reading.Read.{Read}
use Rattle.build_jobs.specs.declared.reading.Read.TheVariants.{Parsed, Refused}
use Rattle.build_jobs.specs.Reading.{HasTree, AreRead}
use Rattle.build_results.specs.Texts.{refused_of, trees_of, modules, AreTrees}
use Rattle.law_graph.proofs.Lists.{Among, map_among}
use Rattle.law_separation.specs.Alike.{Tree}
use Rattle.law_compiling.specs.Whole.{texts_of, AreWithin}
use Rattle.law_compiling.proofs.Words.{HasWords, read_words}

-- ---- one tree

pub one_tree : (text : List ℕ) (m n : Module) → HasTree text m → HasTree text n → m ≡ n
one_tree text m n h k =
    let same : k.tokens ≡ h.tokens = tokens_once text k.tokens h.tokens k.divides.divides h.divides.divides in
    at_most_one h.tokens m n h.is_tree (subst (λ (ts : List Token). IsTree ts n) same k.is_tree)

-- ---- places

-- the file in this place has the text of this tree
pub record IsReadIn (files : List SourceFile) (k : ℕ) (m : Module) : Type 0 where
  pub f : SourceFile
  pub at : slice_get files k ≡ Some f
  pub reads : HasTree f.bytes.items m

tree_read : (files : List SourceFile) (reads : List Read) → AreRead files reads → refused_of files reads ≡ []
    → (k : ℕ) (m : Module) → slice_get (modules (trees_of files reads)) k ≡ Some m → IsReadIn files k m
tree_read [] reads h none k m e = absurd (none-some m e)
tree_read (f ∷ fs) [] h none k m e = absurd h
tree_read (f ∷ fs) (Refused pos number ∷ rs) h none k m e = absurd cc
tree_read (f ∷ fs) (Parsed tree ∷ rs) h none zero m e =
    record { f = f; at = refl; reads = subst (HasTree f.bytes.items) (same_Some (arc_value tree) m e) h.0 }
tree_read (f ∷ fs) (Parsed tree ∷ rs) h none (suc k) m e =
    let r = tree_read fs rs h.1 none k m e in record { f = r.f; at = r.at; reads = r.reads }

-- this tree in this place has the text of the file
pub record HasTreeIn (trees : List Tree) (k : ℕ) (f : SourceFile) : Type 0 where
  pub m : Module
  pub at : slice_get (modules trees) k ≡ Some m
  pub reads : HasTree f.bytes.items m

text_read : (files : List SourceFile) (reads : List Read) → AreRead files reads → refused_of files reads ≡ []
    → (k : ℕ) (f : SourceFile) → slice_get files k ≡ Some f → HasTreeIn (trees_of files reads) k f
text_read [] reads h none k f e = absurd (none-some f e)
text_read (f ∷ fs) [] h none k g e = absurd h
text_read (f ∷ fs) (Refused pos number ∷ rs) h none k g e = absurd cc
text_read (f ∷ fs) (Parsed tree ∷ rs) h none zero g e =
    record {
      m = arc_value tree;
      at = refl;
      reads = subst (λ (x : SourceFile). HasTree x.bytes.items (arc_value tree))
          (same_Some f g e) h.0;
    }
text_read (f ∷ fs) (Parsed tree ∷ rs) h none (suc k) g e =
    let r = text_read fs rs h.1 none k g e in record { m = r.m; at = r.at; reads = r.reads }

module _ (files : List SourceFile) (trees : List Tree) (are : AreTrees files trees) where
  pub file_at : (k : ℕ) (m : Module) → slice_get (modules trees) k ≡ Some m → IsReadIn files k m
  file_at k m e = tree_read files are.reads are.are_read are.fine k m
      (ap (λ (ts : List Tree). slice_get (modules ts) k) (sym are.all) ∙ e)

  pub tree_at : (k : ℕ) (f : SourceFile) → slice_get files k ≡ Some f → HasTreeIn trees k f
  tree_at k f e = subst (λ (ts : List Tree). HasTreeIn ts k f) (sym are.all)
      (text_read files are.reads are.are_read are.fine k f e)

  pub words_at : (m : Module) → Among (modules trees) m → HasWords m
  words_at m a = let r = file_at a.0 m a.1 in read_words r.f.bytes.items m r.reads

-- ---- files of a program

pub contained : {X : Type 0} (xs : List X) (x : X) → Contains xs x → Among xs x
contained xs x c = (c.0, slice_get-get_or xs c.0 x c.1 ∙ ap Some c.2)

pub among_contains : {X : Type 0} (xs : List X) (x : X) → Among xs x → Contains xs x
among_contains xs x a = (a.0, slice_get_within xs a.0 x a.1, get_or_from_slice_get xs a.0 x x a.1)

pub picked : {X : Type 0} (P : X → Type 0) (xs : List X) → All P xs → (x : X) → Among xs x → P x
picked P xs all x a = subst P (get_or_from_slice_get xs a.0 x x a.1) (all a.0 x (slice_get_within xs a.0 x a.1))

pub text_of : (fs : List SourceFile) (k : ℕ) (f : SourceFile) → slice_get fs k ≡ Some f
    → slice_get (texts_of fs) k ≡ Some f.bytes.items
text_of fs k f e = slice_get-map (λ (f : SourceFile). f.bytes.items) fs k
    ∙ ap (λ (o : Option SourceFile). option_map (λ (f : SourceFile). f.bytes.items) o) e

-- the program has this text in this place, and its tree
pub record IsThere (program : List SourceFile) (others : List Tree) (text : List ℕ) (m : Module) : Type 0 where
  pub place : ℕ
  pub text_at : slice_get (texts_of program) place ≡ Some text
  pub tree_at : slice_get (modules others) place ≡ Some m

module _ (program files : List SourceFile) (others trees : List Tree) (whole : AreTrees program others)
    (are : AreTrees files trees) (within : AreWithin program files) where
  -- The text and the tree of one of the files are those of a file of the program.
  pub source_there : (k : ℕ) (m : Module) (f : SourceFile) → slice_get files k ≡ Some f → HasTree f.bytes.items m
      → IsThere program others f.bytes.items m
  source_there k m f at reads =
      let text : List ℕ = f.bytes.items in
      let c = contained (texts_of program) text
      (picked (Contains (texts_of program)) (texts_of files) within text (k, text_of files k f at)) in
      let g = map_among (λ (f : SourceFile). f.bytes.items) program text c in
      let t = tree_at program others whole g.1.0 g.0 g.1.1 in
      let same : t.m ≡ m = one_tree text t.m m (subst (λ (text : List ℕ). HasTree text t.m) g.2 t.reads) reads in
      record {
        place = g.1.0;
        text_at = text_of program g.1.0 g.0 g.1.1 ∙ ap Some g.2;
        tree_at = t.at ∙ ap Some same;
      }

  -- A tree of one of the files is a tree of the program.
  pub tree_there : (k : ℕ) (m : Module) → slice_get (modules trees) k ≡ Some m → (j : ℕ)
      × (slice_get (modules others) j ≡ Some m)
  tree_there k m e =
      let r = file_at files trees are k m e in
      let s = source_there k m r.f r.at r.reads in
      (s.place, s.tree_at)
