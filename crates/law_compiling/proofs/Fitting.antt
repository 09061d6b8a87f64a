-- What was written of the bodies of a program fits together.
use Rattle.std.proofs.Common.{◌≡◌, ◌≢◌, ◌<◌, ◌≤◌, ℕ, length, zero, suc, ◌+◌, ◌*◌, Bool, true, false, cond, ◌==◌, List, [], ◌∷◌, map, Option, Some, None, refl, sym, ap, subst, ◌∙◌, inl, inr, arith, eq-eqb}
use Rattle.std.specs.Prelude.{slice_get}
use Rattle.std.specs.List.{All, AllZip, Contains, flat_map, enumerate_from}
use Rattle.std.specs.Str.Lossy.{utf8_lossy}
use Rattle.std.specs.String.{string_bytes}
use Rattle.std.proofs.lemmas.Bool.{false≢true, cases_Bool, eqb-true}
use Rattle.std.proofs.lemmas.Option.{none-some, same_Some, slice_get_within}
use Rattle.m2_tree.specs.declared.decl.Module.{Module}
use Rattle.m2_graph.specs.Imports.{is_definition}
use Rattle.scan_tokens.proofs.Scanned.{tokens_once, never_both}
use Rattle.show_tokens.specs.Tokens.{lexemes_text}
use Rattle.layout_storage.specs.Sizes.{page_size}
use Rattle.def_meaning.specs.Runs.{data_size, least_stack}
use Rattle.def_scheme.specs.Modules.{stack_begin, link_of}
use Rattle.def_scheme.specs.Modules.{Part as Sizes}
use Rattle.emit_buffer.specs.Cut.{cut_module}
use Rattle.m2_emit.specs.Emitted.{code_bytes}
use Rattle.build_jobs.specs.declared.file.SourceFile.{SourceFile}
use Rattle.build_jobs.specs.Reading.{HasTree}
use Rattle.build_results.specs.Texts.{modules}
use Rattle.m2_tree.specs.Names.{is_console}
use Rattle.m2_tree.specs.declared.name.Ident.{Ident}
use Rattle.m2_graph.specs.Files.{trees, number_files}
use Rattle.law_graph.specs.Started.{AreApart, all_imported}
use Rattle.law_graph.proofs.Once.{graph_or_refusal}
use Rattle.law_graph.proofs.Lists.{Among, none_among, later_among, among_cases, among_append_cases, among-map, map_among}
use Rattle.law_linking.proofs.Single.{one_program}
use Rattle.law_linking.proofs.Standing.{place_of}
use Rattle.law_linking.specs.Parts.{IsPart, built_parts}
use Rattle.law_linking.proofs.Accepted.{parts_accepted}
use Rattle.law_linking.proofs.Linking.{parts_start}
use Rattle.law_separation.specs.Alike.{Tree, Jobs}
use Rattle.compile_module.specs.declared.made.Interface.{Interface as Needed}
use Rattle.compile_module.specs.Told.{interface_in, interface_told, interfaces_of}
use Rattle.link_parts.specs.declared.part.Part.{Part}
use Rattle.link_parts.specs.declared.part.Interface.{Interface}
use Rattle.link_parts.specs.Sums.{Says, sum_of, IsInterfaceSum}
use Rattle.link_parts.specs.Fitting.{Use, use_of, uses_of, uses_from, Agree, AreOneProgram, names_of}
use Rattle.link_parts.specs.Stands.{stands_for, trees_of}
use Rattle.link_parts.specs.declared.fault.LinkFault.{LinkFault}
use Rattle.link_parts.specs.declared.fault.LinkFault.TheVariants as fault
use Rattle.link_parts.specs.Linked.{started, IsLinked, IsTooLarge, IsFault}
use Rattle.tool_modules.specs.Parts.{IsTold, IsTokensSum}
use Rattle.m2c.specs.Build.{IsProgram}
use Rattle.m2c.proofs.Encodings.{begin_is}
use Rattle.law_compiling.specs.Whole.{Written, IsWrittenOf, texts_of, parts_of, AreComplete, WhatIsWrittenLinks}
use Rattle.law_compiling.proofs.Words.{HasWords, word_text, words_short}
use Rattle.law_compiling.proofs.Telling.{unless_among}
use Rattle.law_compiling.proofs.Importing.{imported_words}
use Rattle.law_compiling.proofs.Places.{one_place}
use Rattle.law_compiling.proofs.Sources.{IsThere, file_at, words_at, source_there, contained, picked}
use Rattle.law_compiling.proofs.Building.{parts_are, link_is}
use Rattle.law_compiling.proofs.Whole.{among_each, one_of, jobs, written_with, are_parts}

-- ---- checksums of definitions

tokens_said : (text : List ℕ) (m : Module) (h : HasTree text m) (bytes : List ℕ) → Says text bytes
    → bytes ≡ lexemes_text h.tokens
tokens_said text m h bytes (inl (tokens, has, is)) =
    is ∙ ap lexemes_text (tokens_once text tokens h.tokens has h.divides.divides)
tokens_said text m h bytes (inr (refusal, refuses, is)) =
    absurd (never_both text h.tokens refusal h.divides.short h.divides.divides refuses)

one_sum : (text : List ℕ) (m : Module) → HasTree text m → (s t : List ℕ) → IsInterfaceSum text s
    → IsInterfaceSum text t → s ≡ t
one_sum text m h s t a b =
    a.2 ∙ ap sum_of (tokens_said text m h a.0 a.1 ∙ sym (tokens_said text m h b.0 b.1)) ∙ sym b.2

-- ---- definitions that were needed

enumerated : (n : ℕ) (xs : List Module) (f : ℕ × Module) → Among (enumerate_from n xs) f → (i : ℕ) × (f.0 ≡ n + i)
    × (slice_get xs i ≡ Some f.1)
enumerated n [] f a = absurd (none_among f a)
enumerated n (x ∷ xs) f a = elim (among_cases (n, x) (enumerate_from (n + 1) xs) f a) [
  | inl s ↦ (0, (let q = ap (λ (g : ℕ × Module). g.0) s in omega (arith, q)), ap (λ (g : ℕ × Module). Some g.1) s)
  | inr more ↦ (let w = enumerated (n + 1) xs f more in (suc w.0, (let q = w.1 in omega (arith, q)), w.2))
]

told_in : (f : ℕ × Module) (x : List ℕ × ℕ) → Among (interface_in f) x → (is_definition f.1 ≡ true)
    × (x ≡ (utf8_lossy f.1.name.name, f.0))
told_in f x a = by (is_definition f.1) refl a
  where
    by : (b : Bool) → is_definition f.1 ≡ b → Among (cond b ((utf8_lossy f.1.name.name, f.0) ∷ []) []) x
        → (is_definition f.1 ≡ true) × (x ≡ (utf8_lossy f.1.name.name, f.0))
    by true e a = (e, sym (one_of _ x a))
    by false e a = absurd (none_among x a)

-- the definition in this place was needed
record WasNeeded (alone : List Tree) (n : Needed) : Type 0 where
  d : Module
  at : slice_get (modules alone) n.file ≡ Some d
  kind : is_definition d ≡ true
  name : string_bytes n.name ≡ utf8_lossy d.name.name

was_needed : (alone : List Tree) (needed : List Needed) → map interface_told needed ≡ interfaces_of (modules alone)
    → (n : Needed) → Among needed n → WasNeeded alone n
was_needed [] needed e n a =
    absurd (none_among (interface_told n) (subst (λ (xs : List (List ℕ × ℕ)). Among xs (interface_told n)) e
    (among-map interface_told needed n a)))
was_needed (f ∷ rest) needed e n a =
    let here = subst (λ (xs : List (List ℕ × ℕ)). Among xs (interface_told n)) e (among-map interface_told needed n a)
    in
    let g = among_each interface_in (enumerate_from 1 (modules rest)) (interface_told n) here in
    let t = told_in g.0 (interface_told n) g.2 in
    let w = enumerated 1 (modules rest) g.0 g.1 in
    let file : n.file ≡ suc w.0 =
    (let q = ap (λ (x : List ℕ × ℕ). x.1) t.1 in let r = w.1 in omega (arith, q, r)) in
    record {
      d = g.0.1;
      at = ap (slice_get (modules (f ∷ rest))) file ∙ w.2;
      kind = t.0;
      name = ap (λ (x : List ℕ × ℕ). x.0) t.1;
    }

zipped : {X Y : Type 0} (R : X → Y → Type 0) (xs : List X) (ys : List Y) → AllZip R xs ys → (y : Y) → Among ys y
    → (x : X) × Among xs x × R x y
zipped R [] [] z y a = absurd (none_among y a)
zipped R [] (y' ∷ ys) z y a = absurd z
zipped R (x ∷ xs) [] z y a = absurd z
zipped R (x ∷ xs) (y' ∷ ys) z y a = elim (among_cases y' ys y a) [
  | inl s ↦ (x, (0, refl), subst (R x) s z.0)
  | inr more ↦ (let w = zipped R xs ys z.1 y more in (w.0, later_among x xs w.0 w.1, w.2))
]

-- ---- uses of definitions

-- a part with this use
record IsUseOf (ps : List Part) (u : Use) : Type 0 where
  p : Part
  among : Among ps p
  i : Interface
  there : Among p.interfaces.items i
  name : u.name ≡ string_bytes i.name
  sum : u.sum ≡ string_bytes i.sum

use_in : (n : ℕ) (ps : List Part) (u : Use) → Among (uses_from n ps) u → IsUseOf ps u
use_in n [] u a = absurd (none_among u a)
use_in n (p ∷ ps) u a = elim (among_append_cases (uses_of n p) (uses_from (n + 1) ps) u a) [
  | inl l ↦ (let r = map_among (use_of n) p.interfaces.items u l in record {
    p = p;
    among = (0, refl);
    i = r.0;
    there = r.1;
    name = ap (λ (x : Use). x.name) (sym r.2);
    sum = ap (λ (x : Use). x.sum) (sym r.2);
  })
  | inr m ↦ (let w = use_in (n + 1) ps u m in record {
    p = w.p;
    among = later_among p ps w.p w.among;
    i = w.i;
    there = w.there;
    name = w.name;
    sum = w.sum;
  })
]

-- the definition of the program that was used
record IsUsed (program : List SourceFile) (others : List Tree) (u : Use) : Type 0 where
  text : List ℕ
  d : Module
  is_there : IsThere program others text d
  reads : HasTree text d
  kind : is_definition d ≡ true
  name : u.name ≡ d.name.name
  sum : IsInterfaceSum text u.sum

in_turn : (a b c d e : List ℕ) → a ≡ b → b ≡ c → c ≡ d → d ≡ e → a ≡ e
in_turn a b c d e p q r s = p ∙ q ∙ r ∙ s

sum_of_text : (o : Option SourceFile) (f : SourceFile) → o ≡ Some f → (sum : List ℕ) → IsTokensSum o sum
    → IsInterfaceSum f.bytes.items sum
sum_of_text None f e sum h = absurd (none-some f e)
sum_of_text (Some g) f e sum h = subst (λ (x : SourceFile). IsInterfaceSum x.bytes.items sum) (same_Some g f e) h

module _ (program : List SourceFile) (pages : ℕ) (link : List ℕ) (built : List (List ℕ × List ℕ))
    (p : IsProgram program pages link built) (ws : List Written) (all : All (IsWrittenOf program) ws) where
  used : (u : Use) → Among (uses_from 0 (parts_of ws)) u → IsUsed program p.trees u
  used u a =
      let o = use_in 0 (parts_of ws) u a in
      let r = map_among (λ (w : Written). w.part) ws o.p o.among in
      let is = picked (IsWrittenOf program) ws all r.0 r.1 in
      let c = is.written.comes in
      let alone : List Tree = c.0 in
      let z = zipped (IsTold is.files) is.written.needed.items r.0.part.interfaces.items is.written.part.interfaces o.i
      (subst (λ (q : Part). Among q.interfaces.items o.i) (sym r.2) o.there) in
      let w = was_needed alone is.written.needed.items c.2.1.are_interfaces z.0 z.1 in
      let f = file_at is.files alone c.1 z.0.file w.d w.at in
      let there = source_there program is.files p.trees alone p.graph.are_trees c.1 is.within z.0.file w.d f.f f.at
      f.reads in
      let words = words_at is.files alone c.1 w.d (z.0.file, w.at) in
      record {
        text = f.f.bytes.items;
        d = w.d;
        is_there = there;
        reads = f.reads;
        kind = w.kind;
        name = in_turn u.name (string_bytes o.i.name) (string_bytes z.0.name) (utf8_lossy w.d.name.name) w.d.name.name
            o.name z.2.0 w.name (word_text w.d.name.name words.name);
        sum = subst (IsInterfaceSum f.f.bytes.items) (sym o.sum)
            (sum_of_text (slice_get is.files z.0.file) f.f f.at (string_bytes o.i.sum) z.2.1);
      }

  agree : Agree (uses_from 0 (parts_of ws))
  agree u v a b name =
      let x = used u (contained (uses_from 0 (parts_of ws)) u a) in
      let y = used v (contained (uses_from 0 (parts_of ws)) v b) in
      let place : x.is_there.place ≡ y.is_there.place =
      one_place p.trees (jobs program pages link built p ws all) x.is_there.place y.is_there.place x.d y.d
      x.is_there.tree_at y.is_there.tree_at (x.kind ∙ sym y.kind) (sym x.name ∙ name ∙ y.name) in
      let same : x.text ≡ y.text = same_Some x.text y.text
      (sym x.is_there.text_at ∙ ap (slice_get (texts_of program)) place ∙ y.is_there.text_at) in
      one_sum y.text y.d y.reads u.sum v.sum (subst (λ (t : List ℕ). IsInterfaceSum t u.sum) same x.sum) y.sum

  -- ---- one program

  -- two parts that are programs have one name
  same_program : (w v : Written) → Among ws w → Among ws v → w.part.is_program ≡ true → v.part.is_program ≡ true
      → string_bytes w.part.name ≡ string_bytes v.part.name
  same_program w v a b e g =
      let graph = p.graph.is_graph in
      let x = (written_with program pages link built p ws all w a).part in
      let y = (written_with program pages link built p ws all v b).part in
      let j = place_of p.trees graph.0 graph.1 x.file x.body x.there in
      let k = place_of p.trees graph.0 graph.1 y.file y.body y.there in
      let q : j.0 ≡ k.0 = one_program graph.0 graph.2.fine j.0 k.0 x.body y.body j.1 k.1 (sym x.program ∙ e)
      (sym y.program ∙ g) in
      let same : x.body ≡ y.body = same_Some x.body y.body (sym j.1 ∙ ap (slice_get (trees graph.0)) q ∙ k.1) in
      x.name ∙ ap (λ (m : Module). m.name.name) same ∙ sym y.name

  module _ (c : AreComplete ws) where
    not_first : (k : ℕ) → (suc k == 0) ≡ false
    not_first k = elim (cases_Bool (suc k == 0))
        [ inl e ↦ absurd (let q = eqb-true (suc k) 0 e in omega (arith, q)) | inr e ↦ e ]

    first_among : Among ws c.first
    first_among = (0, c.there)

    others_none : (vs : List Written) → vs ≡ ws → (k : ℕ) (q : Part) → slice_get (parts_of vs) (suc k) ≡ Some q
        → q.is_program ≡ false
    others_none [] same k q e = absurd (none-some q e)
    others_none (v ∷ vs) same k q e = elim (cases_Bool q.is_program) [
      | inr none ↦ none
      | inl is ↦ (
          let r = map_among (λ (w : Written). w.part) vs q (k, e) in
          let first : v ≡ c.first = same_Some v c.first (ap (λ (xs : List Written). slice_get xs 0) same ∙ c.there) in
          let among : Among ws r.0 = subst (λ (xs : List Written). Among xs r.0) same (later_among v vs r.0 r.1) in
          let names = same_program c.first r.0 first_among among c.is_program
          (ap (λ (x : Part). x.is_program) r.2 ∙ is) in
          let apart = subst (λ (xs : List Written). AreApart (map (λ (x : Part). string_bytes x.name) (parts_of xs)))
          (sym same) c.whole.apart in
          absurd (picked (λ (y : List ℕ). string_bytes v.part.name ≢ y)
          (map (λ (x : Part). string_bytes x.name) (parts_of vs)) apart.0 (string_bytes r.0.part.name)
          (among-map (λ (x : Part). string_bytes x.name) (parts_of vs) r.0.part
          (among-map (λ (w : Written). w.part) vs r.0 r.1))
          (ap (λ (x : Written). string_bytes x.part.name) first ∙ names)))
    ]

    part_at : (vs : List Written) (k : ℕ) (v : Written) → slice_get vs k ≡ Some v
        → slice_get (parts_of vs) k ≡ Some v.part
    part_at [] k v e = absurd (none-some v e)
    part_at (x ∷ vs) zero v e = ap (λ (y : Written). Some y.part) (same_Some x v e)
    part_at (x ∷ vs) (suc k) v e = part_at vs k v e

    one : AreOneProgram (parts_of ws)
    one = record {
      some = slice_get_within (parts_of ws) 0 c.first.part (part_at ws 0 c.first c.there);
      first = by;
    }
      where
        by : (n : ℕ) (q : Part) → slice_get (parts_of ws) n ≡ Some q → q.is_program ≡ (n == 0)
        by zero q e =
            ap (λ (x : Part). x.is_program) (same_Some q c.first.part (sym e ∙ part_at ws 0 c.first c.there))
            ∙ c.is_program ∙ sym (eq-eqb 0 0 refl)
        by (suc k) q e = others_none ws refl k q e ∙ sym (not_first k)

    links : IsLinked (parts_of ws) pages link
    links =
        let parts = are_parts program pages link built p ws all in
        let its : Jobs p.trees = jobs program pages link built p ws all in
        let g = parts_accepted p.trees its (parts_of ws) parts c.whole in
        let same : started (parts_of ws) g.starts ≡ built_parts p.trees its =
        parts_start p.trees its (parts_of ws) parts g.files g.needs g.starts g.is_graph in
        let begin : stack_begin (started (parts_of ws) g.starts) ≡ data_size p.program =
        ap stack_begin (same ∙ parts_are program pages link built p) ∙ begin_is p.program in
        record {
          fit = (one, agree);
          numbers = g.files;
          needs = g.needs;
          starts = g.starts;
          is_graph = g.is_graph;
          fits = subst (λ (n : ℕ). n + least_stack ≤ page_size * pages) (sym begin) p.fits;
          link = link_is program pages link built p
              ∙ sym (ap (λ (ms : List Sizes). code_bytes (cut_module (link_of ms pages))) same);
        }

    -- ---- nothing is refused

    short_name : (q : Part) → Among (parts_of ws) q → (n : List ℕ) → Among (names_of q) n → length n ≤ 64
    short_name q a n b =
        let r = map_among (λ (w : Written). w.part) ws q a in
        let is : IsPart p.trees (jobs program pages link built p ws all) q =
        subst (IsPart p.trees (jobs program pages link built p ws all)) r.2
        (written_with program pages link built p ws all r.0 r.1).part in
        let words = words_at program p.trees p.graph.are_trees in
        let own : HasWords is.body = words is.body (is.file, is.there) in
        let imports = imported_words (modules p.trees) words is.body own in
        elim (among_cases (string_bytes q.name) (map string_bytes q.imports.items) n b) [
          | inl e ↦ subst (λ (m : List ℕ). length m ≤ 64) (sym is.name ∙ e) own.name.0
          | inr more ↦ words_short (all_imported (modules p.trees) is.body) imports n
              (unless_among is_console (map (λ (i : Ident). i.name) (all_imported (modules p.trees) is.body)) n
              (subst (λ (ns : List (List ℕ)). Among ns n) is.imports more))
        ]

    not_long : (n : List ℕ) → Contains (flat_map names_of (parts_of ws)) n → 64 < length n → ⊥
    not_long n a long =
        let e = among_each names_of (parts_of ws) n (contained (flat_map names_of (parts_of ws)) n a) in
        let short = short_name e.0 e.1 n e.2 in
        omega (arith, short, long)

    not_later : (n : ℕ) → 0 < n → (n == 0) ≡ false
    not_later zero l = absurd (omega (arith, l))
    not_later (suc k) l = not_first k

    not_large : (l : IsTooLarge (parts_of ws) pages) → ⊥
    not_large l =
        let its : Jobs p.trees = jobs program pages link built p ws all in
        let same : started (parts_of ws) l.starts ≡ built_parts p.trees its =
        parts_start p.trees its (parts_of ws) (are_parts program pages link built p ws all) l.numbers l.needs l.starts
        l.is_graph in
        let begin : stack_begin (started (parts_of ws) l.starts) ≡ data_size p.program =
        ap stack_begin (same ∙ parts_are program pages link built p) ∙ begin_is p.program in
        let more : page_size * pages < data_size p.program + least_stack =
        subst (λ (n : ℕ). page_size * pages < n + least_stack) begin l.too_large in
        never (page_size * pages) (data_size p.program + least_stack) more p.fits
      where
        never : (m n : ℕ) → m < n → n ≤ m → ⊥
        never m n less least = omega (arith, less, least)

    no_fault : (f : LinkFault) → IsFault (parts_of ws) pages f → f ≡ fault.NoMemory
    no_fault fault.NoMemory h = refl
    no_fault fault.NoProgram h =
        absurd (false≢true (sym (h c.first.part (part_at ws 0 c.first c.there)) ∙ c.is_program))
    no_fault (fault.Program n) (q, at, is, less) =
        absurd (false≢true (sym (one.first n q at ∙ not_later n less) ∙ is))
    no_fault (fault.Interfaces m n name) d =
        absurd (d.other_sums (agree d.first d.second d.first_there d.second_there (d.of_first ∙ sym d.of_second)))
    no_fault (fault.Imports n) (inl (e, (name, a, long))) = absurd (not_long name a long)
    no_fault (fault.Imports n) (inr (refusals, is, e)) =
        absurd (graph_or_refusal (number_files 0 (trees_of (stands_for (parts_of ws)))) links.numbers links.needs
        links.starts refusals links.is_graph is)
    no_fault (fault.Pages n) (l, less) = absurd (not_large l)

pub written_links : WhatIsWrittenLinks
written_links program pages link built p ws all c =
    (links program pages link built p ws all c, no_fault program pages link built p ws all c)
