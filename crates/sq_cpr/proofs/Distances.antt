-- Close, tame and slow points and positions, and the exact conditions of their definitions.
pub mod Agree
pub mod CloseLaw
pub mod Exact
pub mod FollowLaw
pub mod SiteLaw
pub mod SlowLaw
