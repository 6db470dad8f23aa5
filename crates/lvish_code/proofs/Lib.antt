mod Kept
mod Loops
mod Patch
mod Landing
mod CodeSound
