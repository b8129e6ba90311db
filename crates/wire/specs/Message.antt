-- The messages, and the body of each: its kind and then its fields, big-endian. RULES, Messages. What is believed of reading and
-- writing is this page; that every body is read as its message and back is in proofs/BodyLaws.antt.
use Rattle.std.specs.Prelude.{List, [], ◌∷◌, ◌++◌, ℕ, ◌<◌, ◌≤◌, ◌^◌, length}
use Rattle.endian.specs.Bytes.{bytes32, word_bytes}
use Rattle.endian.specs.Places.{Below}

-- n is a transaction's number, s a site, k a ticket
pub data Message : Type 0 where
  -- the first number, and a floor for each site
  opening : ℕ → List ℕ → Message
  -- the site list, a set of eight bits
  beginning : ℕ → Message
  -- n s k
  ticketing : ℕ → ℕ → ℕ → Message
  -- n s
  preparing : ℕ → ℕ → Message
  aborting deciding forgetting : ℕ → Message
  sweeping : Message
  -- a proposed order, as numbers
  proposing : List ℕ → Message
  ordering : Message

abbrev pub body_of : Message → List ℕ
body_of (opening n fs) = 0 ∷ (bytes32 n ++ word_bytes fs)
body_of (beginning s) = 1 ∷ s ∷ []
body_of (ticketing n s k) = 2 ∷ (bytes32 n ++ (s ∷ bytes32 k))
body_of (preparing n s) = 3 ∷ (bytes32 n ++ (s ∷ []))
body_of (aborting n) = 4 ∷ bytes32 n
body_of (deciding n) = 5 ∷ bytes32 n
body_of (forgetting n) = 6 ∷ bytes32 n
body_of sweeping = 7 ∷ []
body_of (proposing ns) = 8 ∷ word_bytes ns
body_of ordering = 9 ∷ []

-- the fields fit their bytes, and the lists fit a body of 160. An opening with no floor or with nine is a message like any other:
-- it is the table that refuses it.
abbrev pub InRange : Message → Type 0
InRange (opening n fs) = (n < 2 ^ 32) × (length fs ≤ 38) × Below (2 ^ 32) fs
InRange (beginning s) = s < 2 ^ 8
InRange (ticketing n s k) = (n < 2 ^ 32) × (s < 2 ^ 8) × (k < 2 ^ 32)
InRange (preparing n s) = (n < 2 ^ 32) × (s < 2 ^ 8)
InRange (aborting n) = n < 2 ^ 32
InRange (deciding n) = n < 2 ^ 32
InRange (forgetting n) = n < 2 ^ 32
InRange sweeping = Unit {0}
InRange (proposing ns) = (length ns ≤ 39) × Below (2 ^ 32) ns
InRange ordering = Unit {0}
