-- Which refusal the capability container gives, by the tests that led there.
-- Assumes nothing.
use mathlib.Core.Path.{◌≡◌}
use mathlib.Core.Bool.{true, false}
use Prim.Native.Nat.{ℕ, ◌%◌, ◌<◌, ◌≤◌}
use borrow.Author.Tests.{eq-eqb, ne_eqb, le-leb, lt-leb}
use lib.ListN.{drop}
use Rattle.tag.specs.Checks.{Checked, fault, first_of}
use Rattle.tag.specs.Version.{known_version}
use Rattle.type2.specs.Memory.{container_checks}

module _ (n magic version size access : ℕ) where
  pub not-blocks : (n % 4 ≡ 0 → ⊥) → fault 1 ≡ first_of (container_checks n magic version size access)
  not-blocks a = rw (ne_eqb (n % 4) 0 a)

  pub image-too-short : n % 4 ≡ 0 → n < 64 → fault 1 ≡ first_of (container_checks n magic version size access)
  image-too-short a b = rw (eq-eqb (n % 4) 0 a, lt-leb 64 n b)

  pub image-too-long : n % 4 ≡ 0 → 64 ≤ n → 1024 < n → fault 1 ≡ first_of (container_checks n magic version size access)
  image-too-long a b c = rw (eq-eqb (n % 4) 0 a, le-leb 64 n b, lt-leb n 1024 c)

  pub no-magic : n % 4 ≡ 0 → 64 ≤ n → n ≤ 1024 → (magic ≡ 0xE1 → ⊥) → fault 2 ≡ first_of (container_checks n magic version size access)
  no-magic a b c d = rw (eq-eqb (n % 4) 0 a, le-leb 64 n b, le-leb n 1024 c, ne_eqb magic 0xE1 d)

  pub bad-version : n % 4 ≡ 0 → 64 ≤ n → n ≤ 1024 → magic ≡ 0xE1 → known_version version ≡ false → fault 3 ≡ first_of (container_checks n magic version size access)
  bad-version a b c d e = rw (eq-eqb (n % 4) 0 a, le-leb 64 n b, le-leb n 1024 c, eq-eqb magic 0xE1 d, e)

  pub bad_access : n % 4 ≡ 0 → 64 ≤ n → n ≤ 1024 → magic ≡ 0xE1 → known_version version ≡ true → (access ≡ 0x00 → ⊥) → (access ≡ 0x0F → ⊥)
      → fault 4 ≡ first_of (container_checks n magic version size access)
  bad_access a b c d e f g = rw (eq-eqb (n % 4) 0 a, le-leb 64 n b, le-leb n 1024 c, eq-eqb magic 0xE1 d, e, ne_eqb access 0x00 f, ne_eqb access 0x0F g)

  -- only the data area is left to test
  module _ (r : Checked) (a : n % 4 ≡ 0) (b : 64 ≤ n) (c : n ≤ 1024) (d : magic ≡ 0xE1) (e : known_version version ≡ true) (z : r ≡ first_of (drop 4 (container_checks n magic version size access))) where
    pub writable : access ≡ 0x00 → r ≡ first_of (container_checks n magic version size access)
    writable f = rw (eq-eqb (n % 4) 0 a, le-leb 64 n b, le-leb n 1024 c, eq-eqb magic 0xE1 d, e, eq-eqb access 0x00 f) z

    pub read_only : (access ≡ 0x00 → ⊥) → access ≡ 0x0F → r ≡ first_of (container_checks n magic version size access)
    read_only g f = rw (eq-eqb (n % 4) 0 a, le-leb 64 n b, le-leb n 1024 c, eq-eqb magic 0xE1 d, e, ne_eqb access 0x00 g, eq-eqb access 0x0F f) z
