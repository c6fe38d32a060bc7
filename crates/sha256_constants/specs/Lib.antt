-- Laws of roots and of primes, for the loops that find them.
pub mod PrimesLaws
pub mod RootLaws
