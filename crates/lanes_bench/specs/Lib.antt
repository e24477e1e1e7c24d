pub mod OneLeaf
