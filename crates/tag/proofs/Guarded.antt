-- The guarded list is accepted and ends in the new image, for every type of tag. It shuts a guard block, so the tag holds none; it
-- stores the other blocks from the new image; it opens the guard block last. Stores that would change nothing may be left out.
-- The invariant is byte by byte: while the guard block is shut, its bytes are those of the closed image, any other is old or new.
-- Assumes nothing.
use mathlib.Core.Path.{◌≡◌, refl, sym, ap, ◌∙◌}
use mathlib.Core.Bool.{Bool, true, false, true≢false}
use mathlib.Core.Logic.{◌⊎◌, inl, inr, ◌↔◌, ⊎_elim}
use mathlib.Core.List.{List, [], ◌∷◌, ◌++◌, map}
use Prim.Native.Nat.{ℕ, suc, ◌+◌, ◌-◌, ◌<◌, ◌≤◌}
use native.Mathlib.Nat.{add-zero}
use native.Mathlib.Omega.{arith}
use native.Mathlib.Decide.{dec_le, dec_lt}
use lib.ListN.{length, get_or}
use lib.Seq.{length-sets, ext_get_or}
use Rattle.tag.specs.Bytes.{byte}
use Rattle.tag.specs.Reading.{broken, nothing, holds}
use Rattle.tag.specs.Stores.{Store, Command, stores, put, puts, cut}
use Rattle.tag.specs.Judge.{Task, accepted, judge}
use Rattle.tag.specs.Cuts.{Safe, as_none, as_new, Kept, Left}
use Rattle.tag.proofs.Each.{Each, each_of}
use Rattle.tag.proofs.Images.{sets_below, sets-above, sets-at, length-puts}
use Rattle.tag.proofs.Judge.{judge-ends, judge-goes, start-safe}

-- the addresses of a store
abbrev pub In : Store → ℕ → Type 0
In s a = (s.at ≤ a) × (a < s.at + length s.bytes)

-- a store whose bytes are those of the image n
abbrev pub PartOf : List ℕ → Store → Type 0
PartOf n s = (k : ℕ) → k < length s.bytes → get_or s.bytes k 0 ≡ byte n (s.at + k)

pub put-cases : (n j : List ℕ) (s : Store) (a : ℕ) → PartOf n s → a < length j
    → (In s a × (byte (put j s) a ≡ byte n a)) ⊎ ((In s a → ⊥) × (byte (put j s) a ≡ byte j a))
put-cases n j s a p l = go (dec_le s.at a) (dec_lt a (s.at + length s.bytes))
  where
    go : Dec (s.at ≤ a) → Dec (a < s.at + length s.bytes) → (In s a × (byte (put j s) a ≡ byte n a)) ⊎ ((In s a → ⊥) × (byte (put j s) a ≡ byte j a))
    go (no q) d = inr ((λ i. q i.0), sets_below s.bytes j s.at a (omega arith))
    go (yes q) (no r) = inr ((λ i. r i.1), sets-above s.bytes j s.at a (omega arith))
    go (yes q) (yes r) =
        let e : s.at + (a - s.at) ≡ a = omega arith in
        let h : byte (put j s) (s.at + (a - s.at)) ≡ byte n (s.at + (a - s.at))
        = sets-at s.bytes j s.at (a - s.at) (omega arith) (omega arith) ∙ p (a - s.at) (omega arith) in
        inl ((q, r), rw e at h)

-- a byte that is new stays new
new-put : (n j : List ℕ) (s : Store) (a : ℕ) → a < length j → PartOf n s → (In s a) ⊎ (byte j a ≡ byte n a) → byte (put j s) a ≡ byte n a
new-put n j s a l p h = ⊎_elim (λ c. c.1) (λ c. c.1 ∙ ⊎_elim (λ i. absurd (c.0 i)) (λ e. e) h) (put-cases n j s a p l)

-- a command's stores, one command after another
abbrev pub runs : List ℕ → List (List Store) → List ℕ
runs j [] = j
runs j (ss ∷ sss) = runs (puts j ss) sss

abbrev pub Eaches : (Store → Type 0) → List (List Store) → Type 0
Eaches P sss = Each (Each P) sss

abbrev pub Some : ℕ → List Store → Type 0
Some a [] = ⊥
Some a (s ∷ ss) = In s a ⊎ Some a ss

pub new-puts : (n : List ℕ) (ss : List Store) (j : List ℕ) (a : ℕ) → a < length j → Each (PartOf n) ss → (Some a ss) ⊎ (byte j a ≡ byte n a) → byte (puts j ss) a ≡ byte n a
new-puts n [] j a l p (inl x) = elim x [ ]
new-puts n [] j a l p (inr e) = e
new-puts n (s ∷ ss) j a l p h = new-puts n ss (put j s) a (omega (arith, length-sets j s.at s.bytes)) p.1 (go h)
  where
    go : (In s a ⊎ Some a ss) ⊎ (byte j a ≡ byte n a) → Some a ss ⊎ (byte (put j s) a ≡ byte n a)
    go (inl (inl i)) = inr (new-put n j s a l p.0 (inl i))
    go (inl (inr i)) = inl i
    go (inr e) = inr (new-put n j s a l p.0 (inr e))

abbrev pub Somes : ℕ → List (List Store) → Type 0
Somes a [] = ⊥
Somes a (ss ∷ sss) = Some a ss ⊎ Somes a sss

cut-runs : (sss : List (List Store)) (j : List ℕ) (cs : List Command)
    → cut (length (map stores sss ++ cs)) j (map stores sss ++ cs) ≡ cut (length cs) (runs j sss) cs
cut-runs [] j cs = refl
cut-runs (ss ∷ sss) j cs = cut-runs sss (puts j ss) cs

-- what a byte may be while the guard block is shut
pub data Cell (G : ℕ → Bool) (start closed new j : List ℕ) (a : ℕ) : Type 0 where
  shut : G a ≡ true → byte j a ≡ byte closed a → Cell G start closed new j a
  old : G a ≡ false → byte j a ≡ byte start a → Cell G start closed new j a
  fresh : G a ≡ false → byte j a ≡ byte new a → Cell G start closed new j a

abbrev pub Between : (ℕ → Bool) → List ℕ → List ℕ → List ℕ → List ℕ → Type 0
Between G i c n j = (length j ≡ length i) × ((a : ℕ) → a < length i → Cell G i c n j a)

-- what a type of tag shows of its guard block
pub record Guard (t : Task) : Type 0 where
  pub block : ℕ → Bool
  pub closed : List ℕ
  pub new : List ℕ
  pub new-length : length new ≡ length t.start
  pub closed-kept : Kept t closed
  pub new-kept : Kept t new
  pub quiet : (j : List ℕ) → Between block t.start closed new j → t.held j ≡ nothing
  pub reads : t.held new ≡ holds t.wanted

module _ (t : Task) (g : Guard t) where
  abbrev Btw : List ℕ → Type 0
  Btw j = Between g.block t.start g.closed g.new j

  -- a store of the new image outside the guard block
  pub record Beside (s : Store) : Type 0 where
    pub part_of : PartOf g.new s
    pub clear : (a : ℕ) → In s a → g.block a ≡ false

  btw-put : (j : List ℕ) (s : Store) → Btw j → Beside s → Btw (put j s)
  btw-put j s b p = (length-sets j s.at s.bytes ∙ b.0, λ a l. ⊎_elim (λ c. fresh (p.clear a c.0) c.1) (λ c. keep a c.1 (b.1 a l)) (put-cases g.new j s a p.part_of (omega (arith, b.0, l))))
    where
      keep : (a : ℕ) → byte (put j s) a ≡ byte j a → Cell g.block t.start g.closed g.new j a → Cell g.block t.start g.closed g.new (put j s) a
      keep a e (shut x y) = shut x (e ∙ y)
      keep a e (old x y) = old x (e ∙ y)
      keep a e (fresh x y) = fresh x (e ∙ y)

  btw-puts : (ss : List Store) (j : List ℕ) → Btw j → Each Beside ss → Btw (puts j ss)
  btw-puts [] j b p = b
  btw-puts (s ∷ ss) j b p = btw-puts ss (put j s) (btw-put j s b p.0) p.1

  btw-runs : (sss : List (List Store)) (j : List ℕ) → Btw j → Eaches Beside sss → Btw (runs j sss)
  btw-runs [] j b p = b
  btw-runs (ss ∷ sss) j b p = btw-runs sss (puts j ss) (btw-puts ss j b p.0) p.1

  btw-kept : (j : List ℕ) → Btw j → Kept t j
  btw-kept j b a l q = go (b.1 a l)
    where
      go : Cell g.block t.start g.closed g.new j a → byte j a ≡ byte t.start a
      go (shut x y) = y ∙ g.closed-kept a l q
      go (old x y) = y
      go (fresh x y) = y ∙ g.new-kept a l q

  new-runs : (sss : List (List Store)) (j : List ℕ) (a : ℕ) → a < length j → Eaches Beside sss → (Somes a sss) ⊎ (byte j a ≡ byte g.new a) → byte (runs j sss) a ≡ byte g.new a
  new-runs [] j a l p (inl x) = elim x [ ]
  new-runs [] j a l p (inr e) = e
  new-runs (ss ∷ sss) j a l p h = new-runs sss (puts j ss) a (omega (arith, length-puts ss j)) p.1 (go h)
    where
      parts : Each (PartOf g.new) ss
      parts = each_of Beside (PartOf g.new) ss (λ s b. b.part_of) p.0

      go : (Some a ss ⊎ Somes a sss) ⊎ (byte j a ≡ byte g.new a) → Somes a sss ⊎ (byte (puts j ss) a ≡ byte g.new a)
      go (inl (inl i)) = inr (new-puts g.new ss j a l parts (inl i))
      go (inl (inr i)) = inl i
      go (inr e) = inr (new-puts g.new ss j a l parts (inr e))

  -- every tag that a command outside the guard block may leave still has its guard block shut
  btw-left : (ss : List Store) (j x : List ℕ) → Btw j → Each Beside ss → Left j (stores ss) x → Btw x
  btw-left ss j x b p e = rw e (btw-puts ss j b p)

  btw-safe : (j : List ℕ) → Btw j → Safe t j
  btw-safe j b = as_none (g.quiet j b)

  -- the judge passes the commands between the guard block's two
  judge-runs : (sss : List (List Store)) (n : ℕ) (j : List ℕ) (cs : List Command) → Btw j → Eaches Beside sss
      → judge t n j (map stores sss ++ cs) ≡ judge t (n + length sss) (runs j sss) cs
  judge-runs [] n j cs b p = rw add-zero
  judge-runs (ss ∷ sss) n j cs b p =
      let e : suc n + length sss ≡ n + suc (length sss) = omega arith in
      judge-goes t n j ss (map stores sss ++ cs)
      (λ x h. btw-kept x (btw-left ss j x b p.0 h)) (λ x h. btw-safe x (btw-left ss j x b p.0 h))
      ∙ judge-runs sss (suc n) (puts j ss) cs (btw-puts ss j b p.0) p.1
      ∙ ap (λ k. judge t k (runs (puts j ss) sss) cs) e

  -- the middle and the end of the list
  pub record Tail (last : Store) (mids : List (List Store)) : Type 0 where
    pub last-part : PartOf g.new last
    pub last-in : (a : ℕ) → a < length t.start → g.block a ≡ true → In last a
    pub mids-beside : Eaches Beside mids
    pub covered : (a : ℕ) → a < length t.start → g.block a ≡ false → (Somes a mids) ⊎ (byte t.start a ≡ byte g.new a)

  abbrev pub ending : Store → List (List Store) → List Command
  ending last mids = map stores mids ++ stores (last ∷ []) ∷ []

  -- from a tag whose guard block is shut and whose other bytes are old
  module _ (last : Store) (mids : List (List Store)) (s : Tail last mids) (j : List ℕ) (b : Btw j)
      (off : (a : ℕ) → a < length t.start → g.block a ≡ false → byte j a ≡ byte t.start a) where
    M-btw : Btw (runs j mids)
    M-btw = btw-runs mids j b s.mids-beside

    last-new : put (runs j mids) last ≡ g.new
    last-new =
        ext_get_or 0 (put (runs j mids) last) g.new (length-sets (runs j mids) last.at last.bytes ∙ M-btw.0 ∙ sym g.new-length)
        (λ a h.
        let l : a < length t.start = omega (arith, length-sets (runs j mids) last.at last.bytes, M-btw.0) in
        ⊎_elim (λ c. c.1) (λ c. c.1 ∙ aside a l c.0 (g.block a) refl)
        (put-cases g.new (runs j mids) last a s.last-part (omega (arith, M-btw.0))))
      where
        aside : (a : ℕ) → a < length t.start → (In last a → ⊥) → (c : Bool) → g.block a ≡ c → byte (runs j mids) a ≡ byte g.new a
        aside a l n true q = absurd (n (s.last-in a l q))
        aside a l n false q =
            new-runs mids j a (omega (arith, b.0)) s.mids-beside (⊎_elim inl (λ e. inr (off a l q ∙ e)) (s.covered a l q))

    -- The last command leaves the new image. P of the tag before is asked for too, because another definition of `Left` may let a
    -- command leave the tag as it was.
    last-left : (P : List ℕ → Type 0) → P (runs j mids) → P g.new → (x : List ℕ) → Left (runs j mids) (stores (last ∷ [])) x → P x
    last-left P p q x e = rw e (rw last-new q)

    ending-accepts : (n : ℕ) → judge t n j (ending last mids) ≡ accepted (n + length mids + 1)
    ending-accepts n =
        judge-runs mids n j (stores (last ∷ []) ∷ []) b s.mids-beside
        ∙ judge-goes t (n + length mids) (runs j mids) (last ∷ []) []
        (last-left (Kept t) (btw-kept _ M-btw) g.new-kept) (last-left (Safe t) (btw-safe _ M-btw) (as_new g.reads))
        ∙ judge-ends t (suc (n + length mids)) (put (runs j mids) last) (rw last-new g.reads)
        ∙ ap accepted (omega arith)

    ending-cut : cut (length (ending last mids)) j (ending last mids) ≡ g.new
    ending-cut = cut-runs mids j (stores (last ∷ []) ∷ []) ∙ last-new

  -- the list without its first command, for a tag whose guard block is shut
  module _ (last : Store) (mids : List (List Store)) (s : Tail last mids)
      (is_shut : (a : ℕ) → a < length t.start → g.block a ≡ true → byte t.start a ≡ byte g.closed a) where
    start-shut : Btw t.start
    start-shut = (refl, λ a l. go a l (g.block a) refl)
      where
        go : (a : ℕ) → a < length t.start → (c : Bool) → g.block a ≡ c → Cell g.block t.start g.closed g.new t.start a
        go a l true q = shut q (is_shut a l q)
        go a l false q = old q refl

    pub shut-accepts : judge t 0 t.start (ending last mids) ≡ accepted (1 + length mids)
    shut-accepts = ending-accepts last mids s t.start start-shut (λ a l q. refl) 0 ∙ ap accepted (omega arith)

    pub shut-last-cut : cut (length (ending last mids)) t.start (ending last mids) ≡ g.new
    shut-last-cut = ending-cut last mids s t.start start-shut (λ a l q. refl)

  -- the whole list, with its first command
  pub record Shuts (first : Store) : Type 0 where
    pub first_part : PartOf g.closed first
    pub first-in : (a : ℕ) → a < length t.start → In first a ↔ (g.block a ≡ true)

  module _ (first last : Store) (mids : List (List Store)) (o : Shuts first) (s : Tail last mids) where
    cell : (a : ℕ) → a < length t.start → Cell g.block t.start g.closed g.new (put t.start first) a
        × (g.block a ≡ false → byte (put t.start first) a ≡ byte t.start a)
    cell a l = go (put-cases g.closed t.start first a o.first_part l) (g.block a) refl
      where
        go : (In first a × (byte (put t.start first) a ≡ byte g.closed a)) ⊎ ((In first a → ⊥) × (byte (put t.start first) a ≡ byte t.start a))
            → (b : Bool) → g.block a ≡ b
            → Cell g.block t.start g.closed g.new (put t.start first) a × (g.block a ≡ false → byte (put t.start first) a ≡ byte t.start a)
        go (inl c) b q = (shut ((o.first-in a l).0 c.0) c.1, λ e. absurd (true≢false (sym ((o.first-in a l).0 c.0) ∙ e)))
        go (inr c) true q = absurd (c.0 ((o.first-in a l).1 q))
        go (inr c) false q = (old q c.1, λ e. c.1)

    shut-first : Btw (put t.start first)
    shut-first = (length-sets t.start first.at first.bytes, λ a l. (cell a l).0)

    -- P of the tag before is asked for too, because another definition of `Left` may let a command leave the tag as it was
    first-left : (P : List ℕ → Type 0) → P t.start → P (put t.start first) → (x : List ℕ) → Left t.start (stores (first ∷ [])) x → P x
    first-left P p q x e = rw e q

    pub accepts : (t.held t.start ≡ broken → ⊥) → judge t 0 t.start (stores (first ∷ []) ∷ ending last mids) ≡ accepted (2 + length mids)
    accepts ok =
        judge-goes t 0 t.start (first ∷ []) (ending last mids)
        (first-left (Kept t) (λ a l q. refl) (btw-kept _ shut-first)) (first-left (Safe t) (start-safe t ok) (btw-safe _ shut-first))
        ∙ ending-accepts last mids s (put t.start first) shut-first (λ a l. (cell a l).1) 1
        ∙ ap accepted (omega arith)

    pub last-cut : cut (length (stores (first ∷ []) ∷ ending last mids)) t.start (stores (first ∷ []) ∷ ending last mids) ≡ g.new
    last-cut = ending-cut last mids s (put t.start first) shut-first (λ a l. (cell a l).1)
