-- The judge decides what the statements of `Cuts` say, for every type of tag. It accepts exactly the safe lists, and otherwise
-- gives exactly the first fault with its position.
-- Assumes nothing.
use mathlib.Core.Path.{◌≡◌, refl, sym, ap, ap₂, ◌∙◌}
use mathlib.Core.Bool.{Bool, true, false, not, ◌||◌, false≢true}
use mathlib.Core.Logic.{◌↔◌, ⊎_elim}
use mathlib.Core.List.{List, [], ◌∷◌}
use Prim.Native.Nat.{ℕ, zero, suc, ◌+◌, ◌<◌, ◌≤◌, zero-le, suc-le-suc}
use native.Mathlib.Nat.{add-zero, le_of_suc-le-suc, not-suc-le-zero}
use native.Mathlib.Omega.{arith}
use native.Mathlib.Decide.{ℕ_discrete}
use borrow.Author.Tests.{eqb-true, eq-eqb}
use lib.Dec.{eqb}
use lib.ListN.{length, get_or}
use Rattle.tag.specs.Bytes.{byte, run, same}
use Rattle.tag.specs.Reading.{Held, broken, nothing, holds}
use Rattle.tag.specs.Stores.{Store, Command, malformed, stores, puts, tag_after, states, cut}
use Rattle.tag.specs.Judge.{accepted, refused, Task, holds_as, is_safe, equal_at, keeps, every, fault, judge}
use Rattle.tag.specs.Cuts.{Safe, as_none, as_new, as_old, Kept, SafeList, Left, KeptBy, SafeBy, Fault, none, form, change, reading, Faultless, FirstFault, of_command, of_list}
use Rattle.tag.proofs.Logic.{and_l, and_r, and_both, or_cases, or_l, or_r, same-eq, same_refl, true-false, nope}
use Rattle.tag.proofs.Judging.{judge-next, judge-stop, judge-good, judge-bad}

-- ---- the tests say what the statements say

reads-safe : (t : Task) (j : List ℕ) → is_safe t (t.held j) ≡ true → Safe t j
reads-safe t j e = go (t.held j) refl
  where
    old : (h : Held) (x : List ℕ) → t.held t.start ≡ h → t.held j ≡ holds x → holds_as h x ≡ true → Safe t j
    old broken x p q w = absurd (false≢true w)
    old nothing x p q w = absurd (false≢true w)
    old (holds y) x p q w = as_old y p (q ∙ ap holds (same-eq x y w))

    go : (h : Held) → t.held j ≡ h → Safe t j
    go broken q = absurd (false≢true (rw q at e))
    go nothing q = as_none q
    go (holds x) q =
        let e' : same x t.wanted || holds_as (t.held t.start) x ≡ true = rw q at e in
        ⊎_elim (λ w. as_new (q ∙ ap holds (same-eq x t.wanted w))) (λ w. old (t.held t.start) x refl q w) (or_cases _ _ e')

safe-reads : (t : Task) (j : List ℕ) → Safe t j → is_safe t (t.held j) ≡ true
safe-reads t j (as_none q) = rw q
safe-reads t j (as_new q) = rw q (or_l _ _ (same_refl t.wanted))
safe-reads t j (as_old x p q) = rw (q, p) (or_r (same x t.wanted) (same x x) (same_refl x))

equal-run : (p : ℕ → Bool) (i j : List ℕ) (s n : ℕ) → equal_at p i j (run s n) ≡ true → (a : ℕ) → s ≤ a → a < s + n → p a ≡ true → byte j a ≡ byte i a
equal-run p i j s zero e a l u q = absurd (omega arith)
equal-run p i j s (suc n) e a l u q = go (ℕ_discrete s a) (equal-run p i j (suc s) n (and_r (not (p s) || eqb (byte j s) (byte i s)) _ e) a)
  where
    go : Dec (s ≡ a) → (suc s ≤ a → a < suc s + n → p a ≡ true → byte j a ≡ byte i a) → byte j a ≡ byte i a
    go (yes h) ih =
        let e₁ : not (p s) || eqb (byte j s) (byte i s) ≡ true = and_l _ (equal_at p i j (run (suc s) n)) e in
        eqb-true (byte j a) (byte i a) (rw q at (rw h at e₁))
    go (no h) ih = ih (omega arith) (omega arith) q

run-equal : (p : ℕ → Bool) (i j : List ℕ) (s n : ℕ) → ((a : ℕ) → s ≤ a → a < s + n → p a ≡ true → byte j a ≡ byte i a) → equal_at p i j (run s n) ≡ true
run-equal p i j s zero h = refl
run-equal p i j s (suc n) h =
    and_both (one (p s) (h s (omega arith) (omega arith))) (run-equal p i j (suc s) n (λ a l u. h a (omega arith) (omega arith)))
  where
    one : (b : Bool) → (b ≡ true → byte j s ≡ byte i s) → not b || eqb (byte j s) (byte i s) ≡ true
    one true f = eq-eqb (byte j s) (byte i s) (f refl)
    one false f = refl

keeps-kept : (t : Task) (j : List ℕ) → keeps t j ≡ true → Kept t j
keeps-kept t j e a h q = equal-run t.kept t.start j 0 (length t.start) e a (omega arith) (omega arith) q

kept-keeps : (t : Task) (j : List ℕ) → Kept t j → keeps t j ≡ true
kept-keeps t j h = run-equal t.kept t.start j 0 (length t.start) (λ a l u. h a (omega arith))

-- a test of every tag that a command may leave
every-left : (p : List ℕ → Bool) (ss : List Store) (j : List ℕ) → every p (states j ss) ≡ true → (x : List ℕ) → Left j (stores ss) x → p x ≡ true
every-left p ss j e x h = rw h (and_l (p (puts j ss)) true e)

left-every : (p : List ℕ → Bool) (ss : List Store) (j : List ℕ) → ((x : List ℕ) → Left j (stores ss) x → p x ≡ true) → every p (states j ss) ≡ true
left-every p ss j h = and_both (h (puts j ss) refl) refl

-- the whole command stored is one of the tags that it may leave
left_after : (j : List ℕ) (c : Command) → Left j c (tag_after j c)
left_after j c = refl

stores-malformed : {ss : List Store} → stores ss ≡ malformed → ⊥
stores-malformed e = nope (cc)

pub fault-is : (t : Task) (j : List ℕ) (c : Command) → Fault t j c (fault t j c)
unfolding fault
fault-is t j malformed = form refl
fault-is t j (stores ss) = go (every (keeps t) (states j ss)) refl (every (λ x. is_safe t (t.held x)) (states j ss)) refl
  where
    go : (k : Bool) → every (keeps t) (states j ss) ≡ k → (g : Bool) → every (λ x. is_safe t (t.held x)) (states j ss) ≡ g
        → Fault t j (stores ss) (fault t j (stores ss))
    go false q g r = rw (q, fault) (change stores-malformed (λ h. true-false (left-every (keeps t) ss j (λ x w. kept-keeps t x (h x w))) q))
    go true q false r = rw (q, r, fault) (reading stores-malformed (λ x w. keeps-kept t x (every-left (keeps t) ss j q x w))
        (λ h. true-false (left-every (λ x. is_safe t (t.held x)) ss j (λ x w. safe-reads t x (h x w))) r))
    go true q true r = rw (q, r, fault) (none stores-malformed (λ x w. keeps-kept t x (every-left (keeps t) ss j q x w))
        (λ x w. reads-safe t x (every-left (λ x. is_safe t (t.held x)) ss j r x w)))

-- a command that is not at fault
record Fine (t : Task) (j : List ℕ) (c : Command) : Type 0 where
  pub formed : c ≡ malformed → ⊥
  pub kept : KeptBy t j c
  pub safe : SafeBy t j c

fine_of : (t : Task) (j : List ℕ) (c : Command) (f : ℕ) → Fault t j c f → f ≡ 0 → Fine t j c
fine_of t j c f (none a b s) e = record { formed = a; kept = b; safe = s }
fine_of t j c f (form a) e = absurd (omega arith)
fine_of t j c f (change a b) e = absurd (omega arith)
fine_of t j c f (reading a b s) e = absurd (omega arith)

of-fine : (t : Task) (j : List ℕ) (c : Command) (f : ℕ) → Fault t j c f → Fine t j c → f ≡ 0
of-fine t j c f (none a b s) h = refl
of-fine t j c f (form a) h = absurd (h.formed a)
of-fine t j c f (change a b) h = absurd (b h.kept)
of-fine t j c f (reading a b s) h = absurd (s h.safe)

-- the statement `Fault` fixes the fault that the judge computes
fault-only : (t : Task) (j : List ℕ) (c : Command) (f : ℕ) → Fault t j c f → fault t j c ≡ f
fault-only t j c f x = same f (fault t j c) x (fault-is t j c)
  where
    same : (f g : ℕ) → Fault t j c f → Fault t j c g → g ≡ f
    same f g (none a b s) y = of-fine t j c g y (record { formed = a; kept = b; safe = s })
    same f g (form a) (none b k s) = absurd (b a)
    same f g (form a) (form b) = refl
    same f g (form a) (change b k) = absurd (b a)
    same f g (form a) (reading b k s) = absurd (b a)
    same f g (change a k) (none b l s) = absurd (k l)
    same f g (change a k) (form b) = absurd (a b)
    same f g (change a k) (change b l) = refl
    same f g (change a k) (reading b l s) = absurd (k l)
    same f g (reading a k s) (none b l w) = absurd (s w)
    same f g (reading a k s) (form b) = absurd (a b)
    same f g (reading a k s) (change b l) = absurd (l k)
    same f g (reading a k s) (reading b l w) = refl

holds_as-true : (h : Held) (x : List ℕ) → holds_as h x ≡ true → h ≡ holds x
holds_as-true broken x e = absurd (false≢true e)
holds_as-true nothing x e = absurd (false≢true e)
holds_as-true (holds y) x e = ap holds (sym (same-eq x y e))

as-holds : (h : Held) (x : List ℕ) → h ≡ holds x → holds_as h x ≡ true
as-holds h x e = rw e (same_refl x)

-- ---- cuts

pub cut-after : (k : ℕ) (j : List ℕ) (cs : List Command) → cut (suc k) j cs ≡ tag_after (cut k j cs) (get_or cs k malformed)
cut-after zero j [] = refl
cut-after zero j (c ∷ cs) = refl
cut-after (suc k) j [] = refl
cut-after (suc k) j (c ∷ cs) = cut-after k (tag_after j c) cs

-- ---- the judge along a list

-- no command is at fault, and the last tag holds the message
record Clean (t : Task) (j : List ℕ) (cs : List Command) : Type 0 where
  pub no_fault : (k : ℕ) → k < length cs → fault t (cut k j cs) (get_or cs k malformed) ≡ 0
  pub ends : holds_as (t.held (cut (length cs) j cs)) t.wanted ≡ true

accept-clean : (t : Task) (n : ℕ) (j : List ℕ) (cs : List Command) (v : ℕ) → judge t n j cs ≡ accepted v → (v ≡ n + length cs) × Clean t j cs
unfolding judge
accept-clean t n j [] v e = go (holds_as (t.held j) t.wanted) refl
  where
    go : (b : Bool) → holds_as (t.held j) t.wanted ≡ b → (v ≡ n + 0) × Clean t j []
    go true q =
        let e' : accepted n ≡ accepted v = rw (q, judge) at e in
        ((cc (add-zero n)), record { no_fault = λ k h. absurd (not-suc-le-zero h); ends = q })
    go false q = let e' : refused 23 n ≡ accepted v = rw (q, judge) at e in absurd (nope (cc))
accept-clean t n j (c ∷ cs) v e = go (fault t j c) refl (accept-clean t (suc n) (tag_after j c) cs v)
  where
    go : (f : ℕ) → fault t j c ≡ f → (judge t (suc n) (tag_after j c) cs ≡ accepted v → (v ≡ suc n + length cs) × Clean t (tag_after j c) cs) → (v ≡ n + suc (length cs)) × Clean t j (c ∷ cs)
    go zero q ih =
        let r : (v ≡ suc n + length cs) × Clean t (tag_after j c) cs = ih (rw (q, judge) at e) in
        let nf : (k : ℕ) → k < length (c ∷ cs) → fault t (cut k j (c ∷ cs)) (get_or (c ∷ cs) k malformed) ≡ 0
        = λ k. elim k as (λ k. k < length (c ∷ cs) → fault t (cut k j (c ∷ cs)) (get_or (c ∷ cs) k malformed) ≡ 0) [ zero ↦ λ h. q | suc k ↦ λ h. r.1.no_fault k (le_of_suc-le-suc h) ] in
        (omega (arith, r.0), record { no_fault = nf; ends = r.1.ends })
    go (suc f) q ih = let e' : refused (suc f) n ≡ accepted v = rw (q, judge) at e in absurd (nope (cc))

clean-accept : (t : Task) (n : ℕ) (j : List ℕ) (cs : List Command) → Clean t j cs → judge t n j cs ≡ accepted (n + length cs)
unfolding judge
clean-accept t n j [] c = rw (c.ends, judge) (ap accepted (sym (add-zero n)))
clean-accept t n j (c ∷ cs) h =
    let q : fault t j c ≡ 0 = h.no_fault 0 (suc-le-suc zero-le) in
    let r : Clean t (tag_after j c) cs = record { no_fault = λ k b. h.no_fault (suc k) (suc-le-suc b); ends = h.ends } in
    rw (q, judge) (clean-accept t (suc n) (tag_after j c) cs r ∙ ap accepted (omega arith))

-- the first fault, from place n on: of the command at place k, or of the whole list
data FirstFrom (t : Task) (n : ℕ) (j : List ℕ) (cs : List Command) (r p : ℕ) : Type 0 where
  at-command : (k : ℕ) → k < length cs → p ≡ n + k → ((l : ℕ) → l < k → fault t (cut l j cs) (get_or cs l malformed) ≡ 0)
      → fault t (cut k j cs) (get_or cs k malformed) ≡ r → (r ≡ 0 → ⊥) → FirstFrom t n j cs r p
  at-end : p ≡ n + length cs → r ≡ 23 → ((l : ℕ) → l < length cs → fault t (cut l j cs) (get_or cs l malformed) ≡ 0)
      → holds_as (t.held (cut (length cs) j cs)) t.wanted ≡ false → FirstFrom t n j cs r p

refuse-first : (t : Task) (n : ℕ) (j : List ℕ) (cs : List Command) (r p : ℕ) → judge t n j cs ≡ refused r p → FirstFrom t n j cs r p
unfolding judge
refuse-first t n j [] r p e = go (holds_as (t.held j) t.wanted) refl
  where
    go : (b : Bool) → holds_as (t.held j) t.wanted ≡ b → FirstFrom t n j [] r p
    go false q =
        let e' : refused 23 n ≡ refused r p = rw (q, judge) at e in
        at-end (cc (add-zero n)) (cc) (λ l h. absurd (not-suc-le-zero h)) q
    go true q = let e' : accepted n ≡ refused r p = rw (q, judge) at e in absurd (nope (cc))
refuse-first t n j (c ∷ cs) r p e = go (fault t j c) refl (refuse-first t (suc n) (tag_after j c) cs r p)
  where
    earlier : (k : ℕ) → fault t j c ≡ 0 → ((l : ℕ) → l < k → fault t (cut l (tag_after j c) cs) (get_or cs l malformed) ≡ 0) → (l : ℕ) → l < suc k → fault t (cut l j (c ∷ cs)) (get_or (c ∷ cs) l malformed) ≡ 0
    earlier k q nf zero h = q
    earlier k q nf (suc l) h = nf l (le_of_suc-le-suc h)

    shift : fault t j c ≡ 0 → FirstFrom t (suc n) (tag_after j c) cs r p → FirstFrom t n j (c ∷ cs) r p
    shift q (at-command k b pe nf fe nz) =
        at-command (suc k) (suc-le-suc b) (omega arith) (earlier k q nf) fe nz
    shift q (at-end pe re nf w) =
        at-end (omega arith) re (earlier (length cs) q nf) w

    go : (f : ℕ) → fault t j c ≡ f → (judge t (suc n) (tag_after j c) cs ≡ refused r p → FirstFrom t (suc n) (tag_after j c) cs r p) → FirstFrom t n j (c ∷ cs) r p
    go zero q ih = shift q (ih (rw (q, judge) at e))
    go (suc f) q ih =
        let e' : refused (suc f) n ≡ refused r p = rw (q, judge) at e in
        let re : suc f ≡ r = cc in
        at-command 0 (suc-le-suc zero-le) (cc (add-zero n)) (λ l h. absurd (not-suc-le-zero h)) (q ∙ re) (omega arith)

first-refuse : (t : Task) (n : ℕ) (j : List ℕ) (cs : List Command) (r p : ℕ) → FirstFrom t n j cs r p → judge t n j cs ≡ refused r p
first-refuse t n j [] r p (at-command k b pe nf fe nz) = absurd (not-suc-le-zero b)
first-refuse t n j [] r p (at-end pe re nf w) = judge-bad t n j w ∙ ap₂ refused (sym re) (omega arith)
first-refuse t n j (c ∷ cs) r p (at-command zero b pe nf fe nz) =
    judge-stop t n j c cs (λ z. nz (sym fe ∙ z)) ∙ ap₂ refused fe (omega arith)
first-refuse t n j (c ∷ cs) r p (at-command (suc k) b pe nf fe nz) =
    judge-next t n j c cs (nf 0 (suc-le-suc zero-le))
    ∙ first-refuse t (suc n) (tag_after j c) cs r p (at-command k (le_of_suc-le-suc b) (omega arith) (λ l h. nf (suc l) (suc-le-suc h)) fe nz)
first-refuse t n j (c ∷ cs) r p (at-end pe re nf w) =
    judge-next t n j c cs (nf 0 (suc-le-suc zero-le))
    ∙ first-refuse t (suc n) (tag_after j c) cs r p (at-end (omega arith) re (λ l h. nf (suc l) (suc-le-suc h)) w)

-- ---- the theorems

-- a tag that reads is safe before any command
pub start-safe : (t : Task) → (t.held t.start ≡ broken → ⊥) → Safe t t.start
start-safe t h = go (t.held t.start) refl
  where
    go : (x : Held) → t.held t.start ≡ x → Safe t t.start
    go broken e = absurd (h e)
    go nothing e = as_none e
    go (holds x) e = as_old x e e

-- each command of an accepted list is fine
accepted-fine : (t : Task) (cs : List Command) (n : ℕ) → judge t 0 t.start cs ≡ accepted n → (k : ℕ) → k < length cs → Fine t (cut k t.start cs) (get_or cs k malformed)
accepted-fine t cs n e k h =
    fine_of t _ _ _ (fault-is t (cut k t.start cs) (get_or cs k malformed)) ((accept-clean t 0 t.start cs n e).1.no_fault k h)

pub accepts-exactly : (t : Task) → (t.held t.start ≡ broken → ⊥) → (cs : List Command) (n : ℕ) → (judge t 0 t.start cs ≡ accepted n) ↔ ((n ≡ length cs) × SafeList t cs)
accepts-exactly t ok cs n = (to, from)
  where
    to : judge t 0 t.start cs ≡ accepted n → (n ≡ length cs) × SafeList t cs
    to e =
        let r : (n ≡ 0 + length cs) × Clean t t.start cs = accept-clean t 0 t.start cs n e in (
          omega (arith, r.0),
          record {
            formed = λ k h. (accepted-fine t cs n e k h).formed;
            safe = λ k. elim k as (λ k. k ≤ length cs → Safe t (cut k t.start cs)) [ zero ↦ λ h. start-safe t ok | suc k ↦ λ h. rw (cut-after k t.start cs) ((accepted-fine t cs n e k h).safe (tag_after (cut k t.start cs) (get_or cs k malformed)) (left_after (cut k t.start cs) (get_or cs k malformed))) ];
            kept = λ k. elim k as (λ k. k ≤ length cs → Kept t (cut k t.start cs)) [ zero ↦ λ h a l q. refl | suc k ↦ λ h. rw (cut-after k t.start cs) ((accepted-fine t cs n e k h).kept (tag_after (cut k t.start cs) (get_or cs k malformed)) (left_after (cut k t.start cs) (get_or cs k malformed))) ];
            ends = holds_as-true _ _ r.1.ends;
          },
        )

    step : SafeList t cs → (k : ℕ) → k < length cs → Fine t (cut k t.start cs) (get_or cs k malformed)
    step a k h = record {
      formed = a.formed k h;
      kept = λ x e. rw (e, ← cut-after k t.start cs) (a.kept (suc k) h);
      safe = λ x e. rw (e, ← cut-after k t.start cs) (a.safe (suc k) h);
    }

    from : (n ≡ length cs) × SafeList t cs → judge t 0 t.start cs ≡ accepted n
    from (e, a) =
        clean-accept t 0 t.start cs
        (record {
          no_fault = λ k h. of-fine t _ _ _ (fault-is t (cut k t.start cs) (get_or cs k malformed)) (step a k h);
          ends = as-holds _ _ a.ends;
        })
        ∙ ap accepted (omega arith)

-- a refusal is given exactly if it is the first fault
pub refuses-exactly : (t : Task) (cs : List Command) (r p : ℕ) → (judge t 0 t.start cs ≡ refused r p) ↔ FirstFault t cs r p
refuses-exactly t cs r p = ((λ e. to (refuse-first t 0 t.start cs r p e)), (λ f. first-refuse t 0 t.start cs r p (from f)))
  where
    clear : (k : ℕ) → ((l : ℕ) → l < k → fault t (cut l t.start cs) (get_or cs l malformed) ≡ 0) → Faultless t cs k
    clear k f l h = rw (f l h) at (fault-is t (cut l t.start cs) (get_or cs l malformed))

    to : FirstFrom t 0 t.start cs r p → FirstFault t cs r p
    to (at-command k b pe nf fe nz) =
        let q : p ≡ k = omega (arith, pe) in
        rw q (of_command b (clear k nf) (rw fe at (fault-is t (cut k t.start cs) (get_or cs k malformed))) nz)
    to (at-end pe re nf w) =
        let q : p ≡ length cs = omega (arith, pe) in
        rw q (of_list refl re (clear (length cs) nf) (λ h. true-false (as-holds _ _ h) w))

    unheld : (h : Held) (x : List ℕ) → (h ≡ holds x → ⊥) → (b : Bool) → holds_as h x ≡ b → b ≡ false
    unheld h x n true q = absurd (n (holds_as-true h x q))
    unheld h x n false q = refl

    cleared : (k : ℕ) → Faultless t cs k → (l : ℕ) → l < k → fault t (cut l t.start cs) (get_or cs l malformed) ≡ 0
    cleared k f l h = fault-only t (cut l t.start cs) (get_or cs l malformed) 0 (f l h)

    from : FirstFault t cs r p → FirstFrom t 0 t.start cs r p
    from (of_command b nf f nz) = at-command p b (omega arith) (cleared p nf) (fault-only t (cut p t.start cs) (get_or cs p malformed) r f) nz
    from (of_list pe re nf w) =
        at-end (omega arith) re (rw (← pe) (cleared p nf))
        (rw (← pe) (unheld (t.held (cut p t.start cs)) t.wanted w (holds_as (t.held (cut p t.start cs)) t.wanted) refl))

-- a step of the judge, and its end, for proofs that a list is accepted
pub judge-goes : (t : Task) (n : ℕ) (j : List ℕ) (ss : List Store) (cs : List Command) → KeptBy t j (stores ss) → SafeBy t j (stores ss)
    → judge t n j (stores ss ∷ cs) ≡ judge t (suc n) (puts j ss) cs
judge-goes t n j ss cs k s =
    judge-next t n j (stores ss) cs (of-fine t j (stores ss) _ (fault-is t j (stores ss)) (record { formed = stores-malformed; kept = k; safe = s }))

pub judge-ends : (t : Task) (n : ℕ) (j : List ℕ) → t.held j ≡ holds t.wanted → judge t n j [] ≡ accepted n
judge-ends t n j e = judge-good t n j (as-holds _ _ e)
