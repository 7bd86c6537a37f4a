-- Lines one after another on a strip.
use Rattle.std.proofs.Common.{◌≡◌, ℕ, ◌+◌, ◌-◌, ◌≤◌, Bool, true, false, ◌&&◌, List, [], ◌∷◌, ◌++◌, map, length, take, drop, vec_items, sym, refl, ap, ◌∙◌, append_assoc, append-nil, arith}
use Rattle.std.proofs.lemmas.Bool.Decides.{nat_tests}
use Rattle.std.proofs.lemmas.List.{drop-append-le, drop-drop, drop_at, length-append, length-drop, length-take-le}
use Rattle.devices.specs.declared.line.Line.{Line}
use Rattle.devices.specs.Meant.{meant}
use Rattle.devices.specs.Printed.{Printed}
use Rattle.strip.specs.GoodLines.{good, all_good}
use Rattle.strip.specs.Strips.{body, rendered, strips}
use Rattle.strip.specs.StripReading.{read_line, lines_in, anew_at, StripReads}
use Rattle.strip.specs.StripMeaning.{strip_lines, used_after}
use Rattle.strip.specs.StripSteps.{Passes}
use Rattle.hoppers.specs.TextLines.{lines_of}
use Rattle.strip.specs.declared.Strip.{Strip}
use Rattle.hoppers.proofs.Splits.{cut}
use Rattle.strip.proofs.Bodies.{good_from, no_end-body, line_body}

rendered_join : (p : Printed) (bs : List ℕ) → rendered p ++ bs ≡ body p ++ 10 ∷ bs
rendered_join p bs = append_assoc (body p) (10 ∷ []) bs

good_head : (p : Printed) (ps : List Printed) → all_good (p ∷ ps) ≡ true → good p ≡ true
good_head p ps h = at (good p) h
  where
    at : (b : Bool) → (b && all_good ps) ≡ true → b ≡ true
    at true k = refl
    at false k = k

good_tail : (p : Printed) (ps : List Printed) → all_good (p ∷ ps) ≡ true → all_good ps ≡ true
good_tail p ps h = at (good p) h
  where
    at : (b : Bool) → (b && all_good ps) ≡ true → all_good ps ≡ true
    at true k = k
    at false k = let z : ◌≡◌ {A = ℕ} 0 1 = cc in absurd (omega arith)

pub strip_reads : StripReads
strip_reads [] h = refl
strip_reads (p ∷ ps) h =
    ap lines_in (rendered_join p (strips ps)) ∙ ap (map read_line) (cut (body p) (strips ps) (no_end-body p (good_head p ps h)))
    ∙ rw (line_body p (good_head p ps h), strip_reads ps (good_tail p ps h)) refl

strips-push : (ps : List Printed) (p : Printed) → strips (ps ++ p ∷ []) ≡ strips ps ++ rendered p
strips-push [] p = append-nil (rendered p)
strips-push (q ∷ ps) p = rw (strips-push ps p) (sym (append_assoc (rendered q) (strips ps) (rendered p)))

good-push : (ps : List Printed) (p : Printed) → all_good ps ≡ true → good p ≡ true → all_good (ps ++ p ∷ []) ≡ true
good-push [] p h k = rw k refl
good-push (q ∷ ps) p h k = rw (good_head q ps h) (good-push ps p (good_tail q ps h) k)

-- a line added to bytes that a strip wrote
record Added (bs : List ℕ) (p : Printed) : Type 0 where
  lines : lines_in (bs ++ rendered p) ≡ lines_in bs ++ p ∷ []
  good : all_good (lines_in (bs ++ rendered p)) ≡ true
  written : strips (lines_in (bs ++ rendered p)) ≡ bs ++ rendered p

added : (bs : List ℕ) (p : Printed) → all_good (lines_in bs) ≡ true → strips (lines_in bs) ≡ bs → good p ≡ true → Added bs p
added bs p h w g =
    let s : bs ++ rendered p ≡ strips (lines_in bs ++ p ∷ []) = ap (λ x. x ++ rendered p) (sym w) ∙ sym (strips-push (lines_in bs) p) in
    let a = good-push (lines_in bs) p h g in
    let l : lines_in (bs ++ rendered p) ≡ lines_in bs ++ p ∷ [] = ap lines_in s ∙ strip_reads (lines_in bs ++ p ∷ []) a in
    record { lines = l; good = rw l a; written = ap strips l ∙ sym s }

-- what print leaves
pub record Grown (items' : List ℕ) (f : ℕ) (was : List Printed) (p : Printed) : Type 0 where
  pub front : f ≤ length items'
  pub anew : anew_at f (length items') ≡ true
  pub good : all_good (lines_in (drop f items')) ≡ true
  pub written : strips (lines_in (drop f items')) ≡ drop f items'
  pub lines : lines_in (drop f items') ≡ was ++ p ∷ []

pub grown : (items items' : List ℕ) (f : ℕ) (p : Printed) → f ≤ length items → all_good (lines_in (drop f items)) ≡ true → strips (lines_in (drop f items)) ≡ drop f items → good p ≡ true →
    items' ≡ items ++ rendered p → Grown items' f (lines_in (drop f items)) p
grown items items' f p h g w k e =
    let a = added (drop f items) p g w k in
    let d : drop f items' ≡ drop f items ++ rendered p = ap (drop f) e ∙ drop-append-le f items (rendered p) h in
    let n : length items' ≡ length items + length (rendered p) = ap length e ∙ length-append items (rendered p) in
    let r : length (rendered p) ≡ length (body p) + 1 = length-append (body p) (10 ∷ []) in
    record { front = omega arith; anew = grind (arith, nat_tests); good = rw d a.good; written = rw d a.written; lines = rw d a.lines }

-- a strip to which a line is added
pub line_grown : (s : Strip) (items' : List ℕ) (l : Line) → items' ≡ vec_items s.held ++ rendered (meant l) → Grown items' s.first (strip_lines s) (meant l)
line_grown s items' l e =
    grown (vec_items s.held) items' s.first (meant l) s.front s.good s.written
    (good_from (meant l) (record { first = l.first; last = l.last; near = l.near; far = l.far; wide = l.wide; shown = l.shown })) e

-- the first line of bytes that a strip wrote, where n bytes stand before a line end
pub record Torn (bs : List ℕ) (n : ℕ) : Type 0 where
  pub reads : lines_in bs ≡ read_line (take n bs) ∷ lines_in (drop (n + 1) bs)
  pub head_good : good (read_line (take n bs)) ≡ true
  pub passes : Passes bs (n + 1)

pub torn : (bs : List ℕ) (n : ℕ) → all_good (lines_in bs) ≡ true → strips (lines_in bs) ≡ bs → n ≤ length bs → lines_of bs ≡ take n bs ∷ lines_of (drop (n + 1) bs) → Torn bs n
torn bs n g w h e =
    let p = read_line (take n bs) in
    let ps = lines_in (drop (n + 1) bs) in
    let r : lines_in bs ≡ p ∷ ps = ap (map read_line) e in
    let a : all_good (p ∷ ps) ≡ true = rw r at g in
    let s : bs ≡ body p ++ 10 ∷ strips ps = sym (rw r at w) ∙ rendered_join p (strips ps) in
    let c : lines_of bs ≡ body p ∷ lines_of (strips ps) = ap lines_of s ∙ cut (body p) (strips ps) (no_end-body p (good_head p ps a)) in
    let t : body p ≡ take n bs = cc in
    let k : length (body p) ≡ n = ap length t ∙ length-take-le n bs h in
    let m : length bs ≡ length (body p) + length (10 ∷ strips ps) = ap length s ∙ length-append (body p) (10 ∷ strips ps) in
    let d : drop (n + 1) bs ≡ strips ps = sym (drop-drop 1 n bs) ∙ ap (λ x. drop 1 (drop n x)) s ∙ ap (drop 1) (drop_at (body p) (10 ∷ strips ps) n k) in
    record { reads = r; head_good = good_head p ps a; passes = record { within = omega arith; good = good_tail p ps a; written = sym d } }

-- what tearing off leaves
pub record Shrunk (items : List ℕ) (f n : ℕ) : Type 0 where
  pub front : f + n ≤ length items
  pub good : all_good (lines_in (drop (f + n) items)) ≡ true
  pub written : strips (lines_in (drop (f + n) items)) ≡ drop (f + n) items
  pub lines : lines_in (drop (f + n) items) ≡ lines_in (drop n (drop f items))

pub shrunk : (items : List ℕ) (f n : ℕ) → f ≤ length items → Passes (drop f items) n → Shrunk items f n
shrunk items f n h t =
    let d : drop n (drop f items) ≡ drop (f + n) items = drop-drop n f items in
    let k : length (drop f items) ≡ length items - f = length-drop f items in
    record { front = omega (arith, t.within); good = rw d at t.good; written = rw d at t.written; lines = ap lines_in (sym d) }

-- bytes that are left are lines that are left
pub some_left : (items : List ℕ) (f n : ℕ) → strips (lines_in (drop f items)) ≡ drop f items → f ≤ length items → (f ≡ length items → ⊥) → n ≡ used_after (lines_in (drop f items)) n
some_left items f n w h k = at (lines_in (drop f items)) w (length-drop f items)
  where
    at : (ps : List Printed) → strips ps ≡ drop f items → length (drop f items) ≡ length items - f → n ≡ used_after ps n
    at [] e l = let z = ap length e in absurd (omega arith)
    at (p ∷ ps) e l = refl
